use Rattle.std.proofs.Common.{◌≡◌, map, take}
use Rattle.interp_graph.specs.Restricted.{limited, shut_of}
use Rattle.interp_graph.proofs.limited.limited_branches.Given as goal

-- the branches so far
abbrev pub invariant-loop-branch : goal.invariant-loop-branch
invariant-loop-branch l = l.now ≡ map (limited (shut_of l.limits)) (take l.branch-index l.branches)
