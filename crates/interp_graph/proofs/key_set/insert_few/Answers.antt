use Rattle.std.proofs.Common.{ap, ◌∙◌, subst, sym}
use Rattle.std.specs.List.{IsDistinct, list_any}
use Rattle.std.proofs.lemmas.Map.Keys.{IsDistinct-push}
use Rattle.interp_graph.specs.StateKey.{state_eq, state_equivalence}
use Rattle.interp_graph.proofs.key_set.insert_few.Goals as goal

pub returns-in_ok-push-in-None-clause-distinct : goal.returns-in_ok-push-in-None-clause-distinct
returns-in_ok-push-in-None-clause-distinct c =
    subst (IsDistinct state_eq) (sym c.in_ok-push-in-None.ensures.items)
    (IsDistinct-push state_equivalence c.args.keys.now.items c.args.key c.requires (ap (list_any (state_eq c.args.key)) (sym c.as_slice.ensures.value) ∙ c.in-None.ensures.none))
