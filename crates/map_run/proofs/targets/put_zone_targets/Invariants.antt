-- So far there are the lines of the first records.
use Rattle.std.proofs.Common.{◌≡◌, ◌++◌, take}
use Rattle.std.specs.List.{flat_map}
use Rattle.name_ends.specs.Asked.{ends_in}
use Rattle.map_run.specs.Targets.{record_lines}
use Rattle.map_run.proofs.targets.put_zone_targets.Given as goal

abbrev pub invariant-loop-rr : goal.invariant-loop-rr
invariant-loop-rr l = record {
  lines : l.lines ≡ l.fn.lines ++ flat_map (record_lines (ends_in l.fn.asker) l.row l.tree.zone) (take l.rr-index l.rrs);
  kept : l.asker ≡ l.fn.asker;
}
