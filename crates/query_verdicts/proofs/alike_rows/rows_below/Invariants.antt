use Rattle.query_verdicts.specs.AlikeBelow.{AreAlikeBelow}
use Rattle.query_verdicts.proofs.alike_rows.rows_below.Given as goal

-- what is known so far holds
abbrev pub invariant-loop-above : goal.invariant-loop-above
invariant-loop-above l = AreAlikeBelow l.queries.trees l.queries.rewrites l.queries.states l.rows
