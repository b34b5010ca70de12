-- So far there are the lines of the first rows.
use Rattle.std.proofs.Common.{◌≡◌, map, take}
use Rattle.std.specs.List.{flat_map}
use Rattle.map_run.specs.Chain.{row_lines}
use Rattle.map_run.proofs.chain.lines_of.Given as goal

abbrev pub invariant-loop-row : goal.invariant-loop-row
invariant-loop-row l = l.lines ≡ flat_map (row_lines l.all) (map (λ row. row.now) (take l.row-index l.rows))
