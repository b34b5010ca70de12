use Rattle.std.proofs.Common.{ℕ, ◌<◌, get_or}
use Rattle.query_verdicts.specs.TreeVerdicts.{TreeRow}
use Rattle.same_answers.specs.Rows.{NoneSoughtAt}
use Rattle.same_answers.specs.declared.verdict.PairEnd.{PairEnd}
use Rattle.same_answers.proofs.pairing.Pairing.first_sought.Given as goal

-- of none of the names so far
abbrev pub invariant-loop-one : goal.invariant-loop-one
invariant-loop-one g l = (k : ℕ) (d : TreeRow _ PairEnd) → k < l.one-index → NoneSoughtAt g.N.PairNaming.compared l.fn.sought (get_or l.filed k d).item
