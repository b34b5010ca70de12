use Rattle.std.proofs.Common.{ℕ, ◌<◌, length, Contains, All}
use Rattle.std.specs.Prelude.{◌↔◌}
use Rattle.label_graph.specs.Targets.{IsFound, IsFoundFrom}
use Rattle.label_graph.proofs.following.found_along.Given as goal

-- what is found along the name is found from the places along the labels that are left
abbrev pub invariant-loop-label : goal.invariant-loop-label
invariant-loop-label l = record {
  within : All (λ place. place < length l.base) l.places;
  found : (other : ℕ) → IsFoundFrom l.base l.reads (Contains l.places) l.rest other ↔ IsFound l.base l.reads l.name other;
}

abbrev pub decreases-loop-label : goal.decreases-loop-label
decreases-loop-label l = length l.rest
