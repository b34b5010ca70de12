use Rattle.std.proofs.Common.{◌≡◌, ◌||◌, ◌&&◌, not, ap, sym, ◌∙◌}
use Rattle.dns_data.specs.Name.{name_eq}
use Rattle.dns_data.specs.declared.rr_type.RrType.TheVariants as types
use Rattle.zone_rules.specs.Apex.{is_type}
use Rattle.zone_rules.specs.Before.{has_name}
use Rattle.zone_rules.proofs.Before.{put-stands}
use Rattle.zone_rules.proofs.rules.Before.put.Goals as goal
use Rattle.zone_rules.proofs.rules.Before.put.Goals.{then-self, else-self}

pub returns : goal.returns
returns c = λ may_have before is stands.
    let old = c.args.self.now in
    let rr = c.args.rr.now in
    let soa : c.if-self.self ≡ (old.has_soa || is_type types.Soa rr) = elim c.if-self.branch [
      | then-self w ↦ w.self-is ∙ (w.if-self.true ∙ sym (ap (λ b. b || is_type types.Soa rr) w.if-self.true))
      | else-self w ↦ w.self-is ∙ (w.is_soa-self.ensures ∙ sym (ap (λ b. b || is_type types.Soa rr) w.if-self.false))
    ] in
    put-stands may_have old
    (record { has_soa = c.if-self.self; cnames = c.put_if.new.names; others = c.put_if-2.new.names; dnames = c.put_if-3.new.names })
    before rr c.args.has_rival is stands soa
    (λ query. c.in_ok-put_if.ensures query ∙ ap (λ b. has_name old.cnames query || (name_eq query rr.owner && (c.args.has_rival && b))) c.is_cname.ensures)
    (λ query. c.in_ok-put_if-2.ensures query ∙ ap (λ b. has_name old.others query || (name_eq query rr.owner && (c.args.has_rival && not b))) c.is_cname-2.ensures)
    (λ query. c.in_ok-put_if-3.ensures query ∙ ap (λ b. has_name old.dnames query || (name_eq query rr.owner && b)) c.is_dname.ensures)
