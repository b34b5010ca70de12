use Rattle.std.proofs.Common.{◌≡◌, ◌++◌}
use Rattle.query_verdicts.proofs.verdicts.joined.Given as goal

-- the items so far, and those that are left
abbrev pub invariant-loop-seen : goal.invariant-loop-seen
invariant-loop-seen l = l.all ++ l.seen-iterator ≡ l.fn.all ++ l.fn.others
