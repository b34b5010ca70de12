use Rattle.std.proofs.Common.{◌≡◌, ◌++◌, map, take, Bor}
use Rattle.std.specs.List.{flat_map}
use Rattle.net_model.specs.declared.walk.Leaf.{Leaf}
use Rattle.same_answers.specs.Ends.{branch_leaves}
use Rattle.same_answers.proofs.ends.put_ends.Given as goal

-- those of the branches so far
abbrev pub invariant-loop-branch : goal.invariant-loop-branch
invariant-loop-branch l =
    map (λ (leaf : Bor Leaf). leaf.now) l.ends.items
    ≡ map (λ (leaf : Bor Leaf). leaf.now) l.fn.ends.items ++ flat_map branch_leaves (take l.branch-index l.branch-items)
