-- So far there are the lines of the first rows.
use Rattle.std.proofs.Common.{◌≡◌, take}
use Rattle.std.specs.List.{flat_map}
use Rattle.alias_ends.specs.Known.{walks_in}
use Rattle.map_run.specs.Aliases.{row_lines}
use Rattle.map_run.proofs.aliases.aliases_of.Given as goal

abbrev pub invariant-loop-row : goal.invariant-loop-row
invariant-loop-row l = record {
  lines : l.lines ≡ flat_map (row_lines (walks_in l.fn.asker) l.fn.asker.config) (take l.row-index l.rows);
  kept : l.asker ≡ l.fn.asker;
}
