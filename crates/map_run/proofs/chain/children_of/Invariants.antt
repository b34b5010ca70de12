-- So far there are those of the first rows to whose servers the cut is delegated.
use Rattle.std.proofs.Common.{◌≡◌, filter, map, take}
use Rattle.map_run.specs.Chain.{is_delegated}
use Rattle.map_run.proofs.chain.children_of.Given as goal

abbrev pub invariant-loop-row : goal.invariant-loop-row
invariant-loop-row l = map (λ row. row.now) l.rows ≡ filter (is_delegated l.all.config l.tree.zone l.cut) (map (λ row. row.now) (take l.row-index l.row-items))
