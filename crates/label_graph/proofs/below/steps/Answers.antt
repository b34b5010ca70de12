use Rattle.std.proofs.Common.{ℕ, List, Contains, get_or, sym, subst}
use Rattle.std.specs.Prelude.{◌↔◌}
use Rattle.std.proofs.lemmas.List.{get_or_default}
use Rattle.std.proofs.lemmas.Result.{IfOk-weaker}
use Rattle.label_graph.specs.Graphs.{SomeItem}
use Rattle.label_graph.specs.Targets.{IsStep}
use Rattle.label_graph.proofs.Passing.{more_some, all_iff}
use Rattle.label_graph.proofs.below.steps.Goals as goal

pub loop-place-preserved : goal.loop-place-preserved
loop-place-preserved c other =
    more_some (IsStep c.args.base.now c.args.label.now other) c.args.places.now c.loop-place.place-index
    (get_or c.args.places.now c.loop-place.place-index 0) c.loop-place-test.true
    (get_or_default c.args.places.now c.loop-place.place-index 0 _ c.loop-place-test.true) _ _ (c.loop-place.invariant other) (c.in_ok-put_step.ensures other)

pub returns : goal.returns
returns c =
    IfOk-weaker c.listed.result _ _ (λ next is other.
    subst (λ (l : List ℕ). Contains l other ↔ SomeItem (IsStep c.args.base.now c.args.label.now other) c.args.places.now) (sym is)
    (all_iff (IsStep c.args.base.now c.args.label.now other) c.args.places.now c.loop-place.place-index c.loop-place-test.false _ (c.loop-place.invariant other)))
    c.listed.ensures
