use Rattle.std.proofs.Common.{◌≡◌, ◌+◌, length, drop}
use Rattle.std.specs.List.{flat_map}
use Rattle.graph_form.specs.Graph.{arm_pairs}
use Rattle.graph_form.proofs.graph.node_pairs.Given as goal

-- the pairs of the arms so far, and those of the arms that are left
abbrev pub invariant-loop-arm : goal.invariant-loop-arm
invariant-loop-arm l =
    l.count + length (flat_map (arm_pairs l.node.state) (drop l.arm-index l.arm-items)) ≡ length (flat_map (arm_pairs l.node.state) l.arm-items)
