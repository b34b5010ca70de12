use Rattle.std.proofs.Common.{ℕ, take, Contains}
use Rattle.std.specs.Prelude.{◌⊎◌, ◌↔◌}
use Rattle.zone_lookup.proofs.tops.put_places.Given as goal

-- the set has those before and the places so far
abbrev pub invariant-loop-place : goal.invariant-loop-place
invariant-loop-place l = (place : ℕ) → Contains l.found.keys place ↔ (Contains l.fn.found.keys place ⊎ Contains (take l.place-index l.places) place)
