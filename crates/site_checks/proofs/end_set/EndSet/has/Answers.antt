use Rattle.std.proofs.Common.{ℕ, List, Option, [], ap, ◌∙◌}
use Rattle.std.specs.Prelude.{unwrap_or}
use Rattle.std.specs.List.{list_any}
use Rattle.site_checks.specs.EndPlaces.{is_end_at}
use Rattle.site_checks.specs.Ends.{end_eq, typed_end}
use Rattle.site_checks.specs.declared.views.TypedEnd.{TypedEnd}
use Rattle.site_checks.proofs.ListedEnds.{found_by_server}
use Rattle.site_checks.proofs.end_set.EndSet.has.Goals as goal

pub returns-in-Some : goal.returns-in-Some
returns-in-Some c =
    let ends = c.self.inside.ends in
    let places = c.self.inside.places in
    let end : TypedEnd = typed_end c.args.rtype c.args.server.now c.args.leaf.now in
    c.is_at_one.ensures
    ∙ (λ i. list_any (is_end_at (c.items.ensures i) end) (c.items-in-Some.ensures i))
    ∙ ap (λ (found : Option (List ℕ)). list_any (is_end_at ends end) (unwrap_or found [])) (c.in-Some.ensures.value)
    ∙ found_by_server ends places c.self.invariant end
    ∙ ap (list_any (end_eq end)) c.self.view_is

pub returns-in-None : goal.returns-in-None
returns-in-None c =
    let ends = c.self.inside.ends in
    let places = c.self.inside.places in
    let end : TypedEnd = typed_end c.args.rtype c.args.server.now c.args.leaf.now in
    ap (λ (found : Option (List ℕ)). list_any (is_end_at ends end) (unwrap_or found [])) (c.in-None.ensures.value)
    ∙ found_by_server ends places c.self.invariant end
    ∙ ap (list_any (end_eq end)) c.self.view_is
