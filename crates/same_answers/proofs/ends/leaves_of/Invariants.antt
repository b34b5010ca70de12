use Rattle.std.proofs.Common.{◌≡◌, map, take, Bor}
use Rattle.std.specs.List.{flat_map}
use Rattle.net_model.specs.declared.walk.Leaf.{Leaf}
use Rattle.same_answers.specs.Ends.{node_leaves}
use Rattle.same_answers.proofs.ends.leaves_of.Given as goal

-- those of the nodes so far
abbrev pub invariant-loop-i : goal.invariant-loop-i
invariant-loop-i l = map (λ (leaf : Bor Leaf). leaf.now) l.ends.items ≡ flat_map (node_leaves l.fn.rtype) (take l.i l.graph.nodes)
