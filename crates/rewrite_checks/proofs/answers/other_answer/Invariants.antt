use Rattle.std.proofs.Common.{◌≡◌, ◌<◌, ℕ, Some, false}
use Rattle.std.specs.Prelude.{slice_get}
use Rattle.graph_form.specs.declared.node.Node.{Node}
use Rattle.net_model.specs.declared.walk.Leaf.{Leaf}
use Rattle.rewrite_checks.specs.Answers.{NodeEndsIn, is_other}
use Rattle.rewrite_checks.proofs.answers.other_answer.Given as goal

-- no node so far ends in such a leaf
abbrev pub invariant-loop-i : goal.invariant-loop-i
invariant-loop-i l =
    (at : ℕ) → at < l.i → (node : Node) (leaf : Leaf) → slice_get l.graph.nodes at ≡ Some node → NodeEndsIn node l.fn.rtype leaf → is_other l.than leaf ≡ false
