-- So far there are the lines beside the first rows.
use Rattle.std.proofs.Common.{◌≡◌, ◌++◌, map, take}
use Rattle.std.specs.List.{flat_map}
use Rattle.map_run.specs.Chain.{child_lines}
use Rattle.map_run.proofs.chain.put_children.Given as goal

abbrev pub invariant-loop-row : goal.invariant-loop-row
invariant-loop-row l = l.lines ≡ l.fn.lines ++ flat_map (child_lines l.hosts l.at) (map (λ row. row.now) (take l.row-index l.rows))
