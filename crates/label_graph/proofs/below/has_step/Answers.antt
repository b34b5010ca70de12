use Rattle.std.proofs.Common.{◌∙◌, get_or, sym, true≢false, inl, inr}
use Rattle.std.proofs.lemmas.List.{get_or_default}
use Rattle.label_graph.specs.Graphs.{HasChild}
use Rattle.label_graph.proofs.Passing.{from_more, all_some}
use Rattle.label_graph.proofs.below.has_step.Goals as goal

pub loop-place-preserved : goal.loop-place-preserved
loop-place-preserved c some =
    elim (from_more (HasChild c.args.base.now c.args.label.now) c.args.places.now c.loop-place.place-index
    (get_or c.args.places.now c.loop-place.place-index 0) c.loop-place-test.true
    (get_or_default c.args.places.now c.loop-place.place-index 0 _ c.loop-place-test.true) some) [
      | inl old ↦ c.loop-place.invariant old
      | inr new ↦ true≢false (sym (c.has_child.ensures.1 new) ∙ c.if-has_child.false)
    ]

pub returns : goal.returns
returns c = (
  λ never. absurd (true≢false (sym never)),
  λ some. absurd (c.loop-place.invariant (all_some (HasChild c.args.base.now c.args.label.now) c.args.places.now c.loop-place.place-index c.loop-place-test.false some)),
)
