use Rattle.std.proofs.Common.{ℕ, take, Contains}
use Rattle.std.specs.Prelude.{◌↔◌}
use Rattle.label_graph.specs.Graphs.{SomeItem}
use Rattle.label_graph.specs.Targets.{IsStep}
use Rattle.label_graph.proofs.below.steps.Given as goal

-- those below the places passed
abbrev pub invariant-loop-place : goal.invariant-loop-place
invariant-loop-place l = (other : ℕ) → Contains l.next.items other ↔ SomeItem (IsStep l.base l.label other) (take l.place-index l.places)
