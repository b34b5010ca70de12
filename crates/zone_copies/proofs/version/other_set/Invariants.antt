-- what the records that were looked at are compared by
use Rattle.std.proofs.Common.{◌≡◌, ◌≤◌, drop, length}
use Rattle.zone_copies.specs.Versions.{others_of}
use Rattle.zone_copies.proofs.version.other_set.Given as goal

abbrev pub invariant-loop-left : goal.invariant-loop-left
invariant-loop-left l = record {
  within : l.left ≤ length l.rrs;
  others : l.others.keys ≡ others_of (drop l.left l.rrs);
}

abbrev pub decreases-loop-left : goal.decreases-loop-left
decreases-loop-left l = l.left
