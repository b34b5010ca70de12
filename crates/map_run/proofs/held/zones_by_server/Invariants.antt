-- the servers that were looked at are found
use Rattle.std.proofs.Common.{◌≤◌, drop, length}
use Rattle.map_run.specs.Held.{FindsHeld}
use Rattle.map_run.proofs.held.zones_by_server.Given as goal

abbrev pub invariant-loop-left : goal.invariant-loop-left
invariant-loop-left l = record {
  within : l.left ≤ length l.servers;
  found : FindsHeld (drop l.left l.servers) l.found;
}

abbrev pub decreases-loop-left : goal.decreases-loop-left
decreases-loop-left l = l.left
