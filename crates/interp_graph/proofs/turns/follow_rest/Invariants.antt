use Rattle.std.proofs.Common.{◌-◌, length}
use Rattle.interp_graph.proofs.TwoTurns.{RestSoFar}
use Rattle.interp_graph.proofs.turns.follow_rest.Given as goal

-- the nodes so far
abbrev pub invariant-loop-alloc : goal.invariant-loop-alloc
invariant-loop-alloc l = RestSoFar l.walker l.most l.fn.states l.states l.left l.nodes

-- how many nodes there may still be
abbrev pub decreases-loop-alloc : goal.decreases-loop-alloc
decreases-loop-alloc l = l.most - length l.nodes
