use Rattle.std.proofs.Common.{ℕ, ◌<◌, get_or}
use Rattle.query_verdicts.specs.Rows.{NonePassesAt}
use Rattle.query_verdicts.specs.TreeVerdicts.{TreeRow}
use Rattle.query_verdicts.specs.declared.verdict.ClassVerdict.{ClassVerdict}
use Rattle.query_verdicts.proofs.passed.first_passed.Given as goal

-- none of the names so far
abbrev pub invariant-loop-one : goal.invariant-loop-one
invariant-loop-one g l = (k : ℕ) (d : TreeRow _ ClassVerdict) → k < l.one-index → NonePassesAt g.S.OnSubject.subject g.S.OnSubject.states (get_or l.filed k d).item
