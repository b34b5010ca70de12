use Rattle.std.proofs.Common.{Bor, All, take}
use Rattle.net_model.specs.declared.config.Zone.{Zone}
use Rattle.part_checks.specs.Targets.{IsLed}
use Rattle.part_checks.proofs.targets.check_targets.Given as goal

-- the zones so far are led
abbrev pub invariant-loop-zone : goal.invariant-loop-zone
invariant-loop-zone l = All (λ (zone : Bor Zone). All (IsLed l.sets l.config zone.now) zone.now.rrs) (take l.zone-index l.zones)
