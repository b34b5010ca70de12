use Rattle.std.proofs.Common.{◌-◌, length}
use Rattle.interp_graph.proofs.TwoTurns.{FirstSoFar}
use Rattle.interp_graph.proofs.turns.follow_all.Given as goal

-- what the first turn gives so far
abbrev pub invariant-loop-alloc : goal.invariant-loop-alloc
invariant-loop-alloc l = FirstSoFar l.walker l.most l.fn.states l.states l.all

-- for how many states it may still give something
abbrev pub decreases-loop-alloc : goal.decreases-loop-alloc
decreases-loop-alloc l = l.most - length l.all
