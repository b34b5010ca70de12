use Rattle.std.proofs.Common.{◌≡◌, ℕ, ◌<◌, Some, true}
use Rattle.std.specs.Prelude.{slice_get}
use Rattle.dns_data.specs.TypeSet.{has_bit}
use Rattle.dns_data.specs.declared.rr_type.RrType.{RrType}
use Rattle.graph_form.specs.Graph.{branches_of}
use Rattle.graph_form.specs.declared.node.Node.{Node}
use Rattle.site_checks.proofs.alike.types_as.Given as goal

-- each type so far goes the same way at the nodes so far
abbrev pub invariant-loop-at : goal.invariant-loop-at
invariant-loop-at l = (other : RrType) → has_bit l.alike other ≡ true → (at : ℕ) → at < l.at → (node : Node) → slice_get l.graph.nodes at ≡ Some node
    → branches_of node l.rtype ≡ branches_of node other
