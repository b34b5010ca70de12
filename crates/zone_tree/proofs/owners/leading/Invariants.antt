use Rattle.std.proofs.Common.{◌≡◌, ◌+◌, map, drop}
use Rattle.zone_tree.specs.Owners.{leading}
use Rattle.zone_tree.specs.Runs.{owner_of}
use Rattle.zone_tree.proofs.owners.leading.Given as goal

-- all runs so far have the owner
abbrev pub invariant-loop-run : goal.invariant-loop-run
invariant-loop-run l = record {
  many : l.count ≡ l.run-index;
  more : leading l.name (map owner_of (drop l.run-index l.runs)) + l.run-index ≡ leading l.name (map owner_of l.runs);
}
