use Rattle.address_deps.specs.Dependents.{AreDependents}
use Rattle.address_deps.proofs.dependents.Dependents.of.Given as goal

-- those of the graphs so far
abbrev pub invariant-loop-place : goal.invariant-loop-place
invariant-loop-place l = AreDependents l.addresses l.place l.dependents.places
