use Rattle.std.proofs.Common.{◌≡◌, ◌+◌, ◌≤◌, ◌++◌, map, reverse, length}
use Rattle.std.specs.Prelude.{All, vec_len, vec_capacity}
use Rattle.verdict_book.specs.Lists.{Judges, JudgesRow}
use Rattle.verdict_book.proofs.filed.list_rows.Given as goal

-- the items so far, and those of the rows that are left from the last on
abbrev pub invariant-loop-row : goal.invariant-loop-row
invariant-loop-row g l = record {
  items : map (λ f. f.item) l.list.items ++ reverse (map (λ r. r.item) l.rows.items) ≡ reverse (map (λ r. r.item) l.initial.rows.items);
  judged : All (JudgesRow g.W.Work.verdict_of) l.rows.items;
  verdicts : All (Judges g.W.Work.verdict_of) l.list.items;
  room : vec_len l.list + length l.rows.items ≤ vec_capacity l.list;
}

abbrev pub decreases-loop-row : goal.decreases-loop-row
decreases-loop-row g l = length l.rows.items
