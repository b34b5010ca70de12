use Rattle.std.proofs.Common.{◌≡◌, ◌+◌, ◌≤◌, ◌++◌, map, length}
use Rattle.std.specs.Vec.{vec_capacity}
use Rattle.std.specs.Vec.Iter.{into_iter_items, into_iter_len}
use Rattle.verdict_book.specs.Keeping.{new_row}
use Rattle.verdict_book.proofs.row.file_row.Given as goal

-- the rows so far, and those of the items that are left
abbrev pub invariant-loop-item : goal.invariant-loop-item
invariant-loop-item g l =
    (l.rows.items ++ map new_row (into_iter_items l.item-iterator) ≡ l.initial.rows.items ++ map new_row (into_iter_items l.initial.item-iterator))
    × (length l.rows.items + length (into_iter_items l.item-iterator) ≤ vec_capacity l.rows)
    × (into_iter_len l.item-iterator ≡ length (into_iter_items l.item-iterator))
