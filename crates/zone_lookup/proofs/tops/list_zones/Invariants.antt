use Rattle.std.proofs.Common.{map, take}
use Rattle.zone_lookup.specs.ListedFor.{IsListedFor}
use Rattle.zone_lookup.proofs.tops.list_zones.Given as goal

-- listed for the origins of the zones so far
abbrev pub invariant-loop-zone : goal.invariant-loop-zone
invariant-loop-zone l = IsListedFor l.place (map (λ zone. zone.origin) (take l.zone-index l.zones)) l.fn.places l.places
