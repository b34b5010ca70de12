use Rattle.interp_graph.specs.Restricted.{shut_of}
use Rattle.interp_graph.proofs.Reaching.{PassSoFar}
use Rattle.interp_graph.proofs.reached.Reaching.pass.Given as goal

-- the nodes so far
abbrev pub invariant-loop-at : goal.invariant-loop-at
invariant-loop-at l = PassSoFar (shut_of l.limits) l.graph.nodes l.fn.self l.self l.at
