-- the records that were looked at are found
use Rattle.std.proofs.Common.{◌≤◌, drop, length}
use Rattle.zone_cuts.specs.Found.{FindsRecords}
use Rattle.zone_cuts.proofs.ns_records.records_by_names.Given as goal

abbrev pub invariant-loop-left : goal.invariant-loop-left
invariant-loop-left l = record {
  within : l.left ≤ length l.rrs;
  found : FindsRecords (drop l.left l.rrs) l.found;
}

abbrev pub decreases-loop-left : goal.decreases-loop-left
decreases-loop-left l = l.left
