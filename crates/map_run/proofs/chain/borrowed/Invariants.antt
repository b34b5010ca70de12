-- So far there are the first rows.
use Rattle.std.proofs.Common.{◌≡◌, map, take}
use Rattle.map_run.proofs.chain.borrowed.Given as goal

abbrev pub invariant-loop-row : goal.invariant-loop-row
invariant-loop-row l = map (λ row. row.now) l.each ≡ take l.row-index l.rows
