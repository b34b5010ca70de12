use Rattle.std.proofs.Common.{◌≤◌, length}
use Rattle.meta_read.proofs.RowByRow.{RowsSoFar}
use Rattle.meta_read.proofs.row_by_row.rows_up_to_end.Given as goal

-- the rows so far, no more than there may be
abbrev pub invariant-loop-alloc : goal.invariant-loop-alloc
invariant-loop-alloc l = RowsSoFar l.initial.reader l.reader l.number l.rows × (l.number ≤ l.most) × (length l.reader ≤ length l.initial.reader)

abbrev pub decreases-loop-alloc : goal.decreases-loop-alloc
decreases-loop-alloc l = length l.reader
