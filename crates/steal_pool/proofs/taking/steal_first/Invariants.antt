use Rattle.std.proofs.Common.{◌≡◌, ℕ, ◌≤◌, length, get_or}
use Rattle.std.specs.Prelude.{sum_by}
use Rattle.steal_pool.specs.Slots.{taken_at}
use Rattle.steal_pool.specs.declared.row.OtherRow.{OtherRow}
use Rattle.steal_pool.proofs.taking.steal_first.Given as goal

-- so far no seat took a ticket, and the others are as they were
abbrev pub invariant-loop-place : goal.invariant-loop-place
invariant-loop-place l = record {
  none_taken : sum_by taken_at l.others ≡ sum_by taken_at l.fn.others;
  same_length : length l.others ≡ length l.fn.others;
  to_the_end : l.place-end ≡ length l.others;
  later : (k : ℕ) (d : OtherRow) → l.place ≤ k → get_or l.others k d ≡ get_or l.fn.others k d;
}
