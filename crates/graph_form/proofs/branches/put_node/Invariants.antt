use Rattle.std.proofs.Common.{◌≡◌, ◌++◌, map, take}
use Rattle.std.specs.List.{flat_map}
use Rattle.graph_form.specs.Branches.{arm_branches, plain_branch}
use Rattle.graph_form.proofs.branches.put_node.Given as goal

-- those of the arms so far
abbrev pub invariant-loop-arm : goal.invariant-loop-arm
invariant-loop-arm l =
    map plain_branch l.all.items ≡ map plain_branch l.fn.all.items ++ flat_map (arm_branches l.node.state) (take l.arm-index l.arm-items)
