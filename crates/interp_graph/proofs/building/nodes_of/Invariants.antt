use Rattle.std.proofs.Common.{◌≡◌, ◌++◌}
use Rattle.interp_graph.specs.Making.{nodes_of}
use Rattle.interp_graph.proofs.building.nodes_of.Given as goal

-- the nodes so far, and those of the states and the arms that are left
abbrev pub invariant-loop-key : goal.invariant-loop-key
invariant-loop-key l = l.nodes.items ++ nodes_of l.key-iterator l.left ≡ nodes_of l.fn.states l.fn.arms
