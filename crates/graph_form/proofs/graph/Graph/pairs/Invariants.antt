use Rattle.std.proofs.Common.{◌≡◌, ◌+◌, length, drop}
use Rattle.std.specs.List.{flat_map}
use Rattle.graph_form.specs.Graph.{node_pairs}
use Rattle.graph_form.proofs.graph.Graph.pairs.Given as goal

-- the pairs of the nodes so far, and those of the nodes that are left
abbrev pub invariant-loop-node : goal.invariant-loop-node
invariant-loop-node l =
    l.count + length (flat_map node_pairs (drop l.node-index l.node-items)) ≡ length (flat_map node_pairs l.node-items)
