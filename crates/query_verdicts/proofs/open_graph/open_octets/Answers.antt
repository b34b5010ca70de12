use Rattle.std.proofs.Common.{◌≤◌, ◌+◌, ◌∙◌, ◌==◌, ℕ, List, Option, length, sym, ap, subst, arith, true≢false}
use Rattle.std.specs.Prelude.{IfSome}
use Rattle.std.specs.Ordering.{nat_cmp, ord_max}
use Rattle.query_verdicts.specs.AlikeBelow.{IsOpenNode}
use Rattle.query_verdicts.proofs.OpenNodes.{AreOpenUpTo, greater_is, one_more_open, whole_open}
use Rattle.query_verdicts.proofs.open_graph.open_octets.Goals as goal

pub loop-at-preserved : goal.loop-at-preserved
loop-at-preserved c =
    let config = c.args.queries.now.trees in
    let label = c.args.label.now in
    let nodes = c.args.graph.now.nodes in
    let at = c.loop-at.at in
    let node = c.node.result.now in
    let most = c.loop-at.most in
    let octets = c.in-Some.octets in
    let greater = greater_is most octets in
    let few : octets ≤ 255 = subst (λ (found : Option ℕ). IfSome found (λ octets. octets ≤ 255)) c.in-Some.is c.in_ok-octets.ensures.within in
    let one : IsOpenNode config label octets node =
    subst (λ (found : Option ℕ). IfSome found (λ octets. IsOpenNode config label octets node)) c.in-Some.is c.in_ok-octets.ensures.open_node in
    record {
      within = subst (λ (m : ℕ). m ≤ 255) (sym c.max-most.ensures) (greater.least 255 c.loop-at.invariant.within few);
      each = subst (λ (m : ℕ). AreOpenUpTo config label nodes m (at + 1)) (sym c.max-most.ensures)
          (one_more_open config label nodes most octets (ord_max nat_cmp most octets) at node greater.first greater.second c.loop-at.invariant.each c.node.ensures one);
    }

pub returns-clause-open_graph : goal.returns-clause-open_graph
returns-clause-open_graph c =
    whole_open c.args.queries.now.trees c.args.label.now c.args.graph.now c.loop-at.most c.loop-at.at
    (λ none. true≢false (sym (c.if-is_empty.ensures ∙ ap (λ (starts : List ℕ). length starts == 0) (c.starts.ensures ∙ none))))
    c.loop-at.invariant.each (omega (arith, c.loop-at-test.false, c.nodes-at-end.ensures))
