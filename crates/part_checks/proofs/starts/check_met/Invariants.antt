use Rattle.std.proofs.Common.{◌≡◌, true, Bor, All, flat_map, take}
use Rattle.dns_data.specs.Name.{Labels, is_among}
use Rattle.net_model.specs.declared.config.Zone.{Zone}
use Rattle.part_checks.specs.Outside.{zone_names}
use Rattle.part_checks.proofs.starts.check_met.Given as goal

-- the names so far are there
abbrev pub invariant-loop-name : goal.invariant-loop-name
invariant-loop-name l = All (λ (name : Labels). is_among (flat_map (λ (zone : Bor Zone). zone_names zone.now) l.zones) name ≡ true) (take l.name-index l.names)
