use Rattle.std.proofs.Common.{◌++◌, take}
use Rattle.query_verdicts.specs.Rows.{KeepsFirsts, with_class}
use Rattle.query_verdicts.proofs.first_classes.FirstClasses.put_shown.Given as goal

-- the faults of the class so far are put
abbrev pub invariant-loop-seen : goal.invariant-loop-seen
invariant-loop-seen l = KeepsFirsts (l.fn.self ++ with_class l.fn.class (take l.seen-index l.fn.shown)) l.self
