use Rattle.address_deps.specs.Dependents.{AreAllPlaces}
use Rattle.address_deps.proofs.direction.all_places.Given as goal

-- those so far
abbrev pub invariant-loop-place : goal.invariant-loop-place
invariant-loop-place l = AreAllPlaces l.place l.places
