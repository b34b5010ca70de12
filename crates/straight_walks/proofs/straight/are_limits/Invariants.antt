use Rattle.std.proofs.Common.{take}
use Rattle.std.specs.List.{AllByRecursion}
use Rattle.straight_walks.specs.Nowhere.{HasLimit}
use Rattle.straight_walks.proofs.straight.are_limits.Given as goal

-- the limits so far are this one
abbrev pub invariant-loop-one : goal.invariant-loop-one
invariant-loop-one l = AllByRecursion (HasLimit l.rewrites) (take l.one-index l.faults)
