use Rattle.std.proofs.Common.{◌≡◌, ◌+◌, map, drop}
use Rattle.serde_json.specs.View.{view}
use Rattle.meta_read.specs.Names.{each}
use Rattle.meta_read.specs.Rows.{read_row}
use Rattle.meta_read.proofs.Each.{continued}
use Rattle.meta_read.proofs.rows.each_row.Given as goal

-- the rows so far, and then those that are left
abbrev pub invariant-loop-i : goal.invariant-loop-i
invariant-loop-i l =
    each read_row 1 (map view l.values) ≡ continued l.rows (each read_row (l.i + 1) (map view (drop l.i l.values)))
