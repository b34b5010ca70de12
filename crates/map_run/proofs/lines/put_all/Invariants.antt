-- So far there are the first columns.
use Rattle.std.proofs.Common.{◌≡◌, ◌++◌, take}
use Rattle.map_run.proofs.lines.put_all.Given as goal

abbrev pub invariant-loop-column : goal.invariant-loop-column
invariant-loop-column l = l.columns ≡ l.fn.columns ++ take l.column-index l.more
