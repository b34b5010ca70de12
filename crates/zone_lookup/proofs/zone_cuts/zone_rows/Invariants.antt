use Rattle.std.proofs.Common.{take}
use Rattle.std.specs.List.{AllZip}
use Rattle.zone_lookup.specs.CutTable.{IsZoneRow}
use Rattle.zone_lookup.proofs.zone_cuts.zone_rows.Given as goal

-- the rows of the trees so far
abbrev pub invariant-loop-tree : goal.invariant-loop-tree
invariant-loop-tree l = AllZip (IsZoneRow l.hosts l.sets) (take l.tree-index l.trees) l.rows.items
