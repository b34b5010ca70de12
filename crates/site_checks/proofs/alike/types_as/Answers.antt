use Rattle.std.proofs.Common.{◌≡◌, ◌∙◌, sym, ap, subst, inl, inr, arith}
use Rattle.std.specs.Prelude.{slice_get}
use Rattle.std.proofs.lemmas.Bool.{cases_lt}
use Rattle.std.proofs.lemmas.Option.{slice_get_within}
use Rattle.graph_form.specs.Graph.{branches_of}
use Rattle.graph_form.specs.declared.node.Node.{Node}
use Rattle.graph_form.proofs.Paths.{same_item}
use Rattle.site_checks.proofs.alike.types_as.Goals as goal

pub loop-at-init : goal.loop-at-init
loop-at-init c = λ other has at below. absurd (omega (arith, below))

pub loop-at-preserved : goal.loop-at-preserved
loop-at-preserved c = λ other has at below node is.
    let told = c.alike_at-alike.ensures other has in
    let nodes = c.args.graph.now.nodes in
    elim (cases_lt at c.loop-at.at) [
      | inl before ↦ c.loop-at.invariant other told.0 at before node is
      | inr not_before ↦ (
          let here : at ≡ c.loop-at.at = omega (arith, below, not_before) in
          subst (λ (n : Node). branches_of n c.args.rtype ≡ branches_of n other)
          (same_item (slice_get nodes c.loop-at.at) c.node.result.now node c.node.ensures (ap (slice_get nodes) (sym here) ∙ is)) told.1)
    ]

pub returns : goal.returns
returns c = λ other has at node is.
    c.loop-at.invariant other has at (omega (arith, slice_get_within c.args.graph.now.nodes at node is, c.loop-at-test.false, c.nodes-at-end.ensures)) node is
