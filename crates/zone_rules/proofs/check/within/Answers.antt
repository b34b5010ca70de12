use Rattle.std.proofs.Common.{◌≡◌, rules, ap, ◌∙◌}
use Rattle.std.specs.List.{filter}
use Rattle.std.proofs.lemmas.Fn.{filter_same}
use Rattle.dns_data.specs.Name.{is_prefix}
use Rattle.zone_rules.proofs.check.within.Goals as goal

pub returns : goal.returns
returns c =
    let kept : c.retain.new.self.items ≡ filter (λ rr. is_prefix c.args.origin.now rr.owner) c.into_vec-rrs.result.items = filter_same _ _ _ (λ x b f' k. search rules) _ _ c.retain.ensures.filtered in
    c.from_vec.ensures ∙ (c.shrink_to_fit.ensures.items ∙ (kept ∙ ap (filter (λ rr. is_prefix c.args.origin.now rr.owner)) c.into_vec-rrs.ensures))
