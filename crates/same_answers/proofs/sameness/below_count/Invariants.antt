use Rattle.std.proofs.Common.{◌≡◌, ◌≤◌, take}
use Rattle.query_verdicts.specs.TreeVerdicts.{below_count}
use Rattle.same_answers.proofs.sameness.below_count.Given as goal

-- those of the names so far
abbrev pub invariant-loop-one : goal.invariant-loop-one
invariant-loop-one g l = record {
  value : l.count ≡ below_count (take l.one-index l.rows);
  within : l.count ≤ l.one-index;
}
