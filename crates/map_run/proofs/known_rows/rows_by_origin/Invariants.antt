-- So far the first rows are listed.
use Rattle.std.proofs.Common.{take}
use Rattle.map_run.specs.Chain.{is_row_at}
use Rattle.map_run.specs.NameLists.{Lists}
use Rattle.map_run.proofs.known_rows.rows_by_origin.Given as goal

abbrev pub invariant-loop-row : goal.invariant-loop-row
invariant-loop-row l = Lists is_row_at (take l.row-index l.rows) l.lists
