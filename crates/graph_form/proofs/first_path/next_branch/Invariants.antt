use Rattle.std.specs.Prelude.{◌||◌}
use Rattle.graph_form.specs.FirstPath.{branch_shows, is_to_follow}
use Rattle.graph_form.proofs.PassedBranches.{NonePasses}
use Rattle.graph_form.proofs.first_path.next_branch.Given as goal

-- the branches so far are not to be followed
abbrev pub invariant-loop-number : goal.invariant-loop-number
invariant-loop-number l =
    NonePasses (λ branch. is_to_follow l.met (l.turn.taken || branch_shows l.fault l.walks l.node.state branch) branch) l.branches l.turn.number l.number
