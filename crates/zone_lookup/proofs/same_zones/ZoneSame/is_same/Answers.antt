use Rattle.std.proofs.Common.{List, sym, ap, ◌∙◌}
use Rattle.dns_data.specs.Name.{Labels}
use Rattle.dns_data.specs.declared.rdata.Rr.{Rr}
use Rattle.dns_data.proofs.Names.{name_eq_decides}
use Rattle.net_model.specs.declared.config.Zone.{Zone}
use Rattle.zone_lookup.proofs.same_zones.ZoneSame.is_same.Goals as goal

pub returns-then-eq : goal.returns-then-eq
returns-then-eq c = λ yes.
    let one : Zone = c.args.self.now in
    let other : Zone = c.args.other.now in
    ap (λ (origin : Labels). record one { origin = origin }) ((name_eq_decides one.origin other.origin).0 (sym c.eq.ensures ∙ c.if-eq.true))
    ∙ ap (λ (rrs : List Rr). record other { rrs = rrs }) (sym c.items.ensures ∙ c.are_same.ensures yes ∙ c.items-then-eq.ensures)
