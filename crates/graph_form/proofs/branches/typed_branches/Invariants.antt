use Rattle.std.proofs.Common.{◌≡◌, map, take}
use Rattle.std.specs.List.{flat_map}
use Rattle.graph_form.specs.Branches.{node_branches, plain_branch}
use Rattle.graph_form.proofs.branches.typed_branches.Given as goal

-- those of the nodes so far
abbrev pub invariant-loop-node : goal.invariant-loop-node
invariant-loop-node l = map plain_branch l.all.items ≡ flat_map node_branches (take l.node-index l.node-items)
