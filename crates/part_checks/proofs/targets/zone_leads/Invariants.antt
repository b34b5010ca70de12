use Rattle.std.proofs.Common.{All, take}
use Rattle.part_checks.specs.Targets.{IsLed}
use Rattle.part_checks.proofs.targets.zone_leads.Given as goal

-- the records so far are led
abbrev pub invariant-loop-rr : goal.invariant-loop-rr
invariant-loop-rr l = All (IsLed l.sets l.servers l.zone) (take l.rr-index l.zone.rrs)
