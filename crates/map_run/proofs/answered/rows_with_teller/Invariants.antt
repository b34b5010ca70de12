-- So far the first rows are looked for.
use Rattle.std.proofs.Common.{◌≡◌, map, take}
use Rattle.map_run.specs.ReachedRows.{tells}
use Rattle.map_run.proofs.answered.rows_with_teller.Given as goal

abbrev pub invariant-loop-row : goal.invariant-loop-row
invariant-loop-row l = l.found.items ≡ map (λ row. tells l.tellers row.server row.origin) (take l.row-index l.rows)
