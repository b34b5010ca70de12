use Rattle.std.proofs.Common.{◌≡◌, ◌++◌, Bor, map, take}
use Rattle.net_model.specs.declared.config.Zone.{Zone}
use Rattle.part_checks.proofs.zones.put_zones.Given as goal

-- and the zones so far
abbrev pub invariant-loop-zone : goal.invariant-loop-zone
invariant-loop-zone l = map (λ (zone : Bor Zone). zone.now) l.all.items ≡ map (λ (zone : Bor Zone). zone.now) l.fn.all.items ++ take l.zone-index l.zones
