use Rattle.std.proofs.Common.{◌≡◌, Bor, flat_map, take}
use Rattle.net_model.specs.declared.config.Zone.{Zone}
use Rattle.part_checks.specs.Outside.{zone_names}
use Rattle.part_checks.proofs.starts.names_of_zones.Given as goal

-- the names of the zones so far
abbrev pub invariant-loop-zone : goal.invariant-loop-zone
invariant-loop-zone l = l.names ≡ flat_map (λ (zone : Bor Zone). zone_names zone.now) (take l.zone-index l.zones)
