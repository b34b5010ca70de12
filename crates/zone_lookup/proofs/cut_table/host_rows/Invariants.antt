use Rattle.std.proofs.Common.{take}
use Rattle.std.specs.List.{AllZip}
use Rattle.zone_lookup.specs.CutTable.{IsHostRow}
use Rattle.zone_lookup.proofs.cut_table.host_rows.Given as goal

-- the rows of the servers so far
abbrev pub invariant-loop-host : goal.invariant-loop-host
invariant-loop-host l = AllZip (IsHostRow l.hosts l.sets) (take l.host-index l.host-items) l.rows.items
