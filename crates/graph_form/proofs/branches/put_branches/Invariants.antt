use Rattle.std.proofs.Common.{◌≡◌, ◌++◌, map, take}
use Rattle.graph_form.specs.Branches.{plain, plain_branch}
use Rattle.graph_form.proofs.branches.put_branches.Given as goal

-- those so far
abbrev pub invariant-loop-branch : goal.invariant-loop-branch
invariant-loop-branch l =
    map plain_branch l.all.items ≡ map plain_branch l.fn.all.items ++ map (plain l.state l.fn.rtype) (take l.branch-index l.branches)
