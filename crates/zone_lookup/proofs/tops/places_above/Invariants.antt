use Rattle.std.proofs.Common.{ℕ, Contains}
use Rattle.std.specs.Prelude.{◌↔◌}
use Rattle.zone_lookup.specs.Tops.{IsListedAbove}
use Rattle.zone_lookup.proofs.tops.places_above.Given as goal

-- those of the fronts so far
abbrev pub invariant-loop-count : goal.invariant-loop-count
invariant-loop-count l = (place : ℕ) → Contains l.found.keys place ↔ IsListedAbove l.places l.name l.count place
