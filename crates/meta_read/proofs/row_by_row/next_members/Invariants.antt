use Rattle.std.proofs.Common.{length}
use Rattle.meta_read.proofs.RowByRow.{MembersSoFar}
use Rattle.meta_read.proofs.row_by_row.next_members.Given as goal

-- what is found so far
abbrev pub invariant-loop-key : goal.invariant-loop-key
invariant-loop-key l = MembersSoFar l.most l.initial.reader l.reader l.found

abbrev pub decreases-loop-key : goal.decreases-loop-key
decreases-loop-key l = length l.reader
