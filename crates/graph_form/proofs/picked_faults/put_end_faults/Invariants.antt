use Rattle.std.proofs.Common.{◌≡◌, ◌++◌, take}
use Rattle.std.specs.List.{flat_map}
use Rattle.graph_form.specs.Branches.{branch_seen, plain_branch}
use Rattle.graph_form.specs.EndFaults.{picked_fault}
use Rattle.graph_form.specs.declared.branches.TypedBranch.{TypedBranch}
use Rattle.graph_form.proofs.picked_faults.put_end_faults.Given as goal

-- those of the branches so far
abbrev pub invariant-loop-one : goal.invariant-loop-one
invariant-loop-one g l =
    l.seen ≡ l.fn.seen ++ flat_map (λ (one : TypedBranch). branch_seen (picked_fault (g.P.PicksFaults.picked l.picker)) (plain_branch one)) (take l.one-index l.branches)
