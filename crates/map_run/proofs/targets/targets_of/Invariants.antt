-- So far there are the lines of the first rows.
use Rattle.std.proofs.Common.{◌≡◌, take}
use Rattle.std.specs.List.{flat_map}
use Rattle.name_ends.specs.Asked.{ends_in}
use Rattle.map_run.specs.Targets.{row_lines}
use Rattle.map_run.proofs.targets.targets_of.Given as goal

abbrev pub invariant-loop-row : goal.invariant-loop-row
invariant-loop-row l = record {
  lines : l.lines ≡ flat_map (row_lines (ends_in l.fn.asker) l.fn.asker.config) (take l.row-index l.rows);
  kept : l.asker ≡ l.fn.asker;
}
