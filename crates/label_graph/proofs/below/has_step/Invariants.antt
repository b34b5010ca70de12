use Rattle.std.proofs.Common.{take}
use Rattle.label_graph.specs.Graphs.{SomeItem, HasChild}
use Rattle.label_graph.proofs.below.has_step.Given as goal

-- none of those passed has the label below it
abbrev pub invariant-loop-place : goal.invariant-loop-place
invariant-loop-place l = SomeItem (HasChild l.base l.label) (take l.place-index l.places) → ⊥
