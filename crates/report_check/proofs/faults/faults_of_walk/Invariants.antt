use Rattle.std.proofs.Common.{◌≡◌, take}
use Rattle.std.specs.List.{flat_map}
use Rattle.zone_lookup.specs.ReferralFaults.{hop_faults}
use Rattle.report_check.proofs.faults.faults_of_walk.Given as goal

-- the faults of the hops so far
abbrev pub invariant-loop-hop : goal.invariant-loop-hop
invariant-loop-hop l = l.faults ≡ flat_map (hop_faults l.hosts l.sets) (take l.hop-index l.hop-items)
