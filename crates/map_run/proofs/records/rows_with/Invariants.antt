-- So far the text has the lines of the first rows.
use Rattle.std.proofs.Common.{◌≡◌, take}
use Rattle.std.specs.List.{flat_map}
use Rattle.map_run.specs.Records.{row_text}
use Rattle.map_run.proofs.records.rows_with.Given as goal

abbrev pub invariant-loop-row : goal.invariant-loop-row
invariant-loop-row l = l.text ≡ flat_map (row_text l.zones) (take l.row-index l.rows)
