use Rattle.std.proofs.Common.{ℕ, List, take, Contains}
use Rattle.std.specs.Prelude.{◌↔◌}
use Rattle.label_graph.specs.Graphs.{SomeItem, HasChild}
use Rattle.label_graph.proofs.below.labels_below.Given as goal

-- the labels below the places passed
abbrev pub invariant-loop-place : goal.invariant-loop-place
invariant-loop-place l = (label : List ℕ) → Contains l.labels.items label ↔ SomeItem (HasChild l.base label) (take l.place-index l.places)
