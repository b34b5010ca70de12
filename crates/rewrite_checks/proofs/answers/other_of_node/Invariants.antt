use Rattle.std.proofs.Common.{◌≡◌, ◌<◌, ℕ, Some, false}
use Rattle.std.specs.Prelude.{slice_get}
use Rattle.graph_form.specs.declared.node.Branch.{Branch}
use Rattle.net_model.specs.declared.walk.Leaf.{Leaf}
use Rattle.rewrite_checks.specs.Answers.{BranchEndsIn, is_other}
use Rattle.rewrite_checks.proofs.answers.other_of_node.Given as goal

-- no branch so far ends in such a leaf
abbrev pub invariant-loop-branch : goal.invariant-loop-branch
invariant-loop-branch l =
    (number : ℕ) → number < l.branch-index → (branch : Branch) (leaf : Leaf) → slice_get l.branch-items number ≡ Some branch → BranchEndsIn branch leaf
    → is_other l.than leaf ≡ false
