-- the zones that were looked at are found
use Rattle.std.proofs.Common.{◌≤◌, drop, length}
use Rattle.map_run.specs.Held.{FindsZones}
use Rattle.map_run.proofs.held.zones_by_origin.Given as goal

abbrev pub invariant-loop-left : goal.invariant-loop-left
invariant-loop-left l = record {
  within : l.left ≤ length l.zones;
  found : FindsZones (drop l.left l.zones) l.found;
}

abbrev pub decreases-loop-left : goal.decreases-loop-left
decreases-loop-left l = l.left
