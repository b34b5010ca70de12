use Rattle.std.proofs.Common.{◌+◌, ◌<◌, ℕ, List, [], ◌∷◌, length, sym, ap, subst, arith, length-append}
use Rattle.graph_form.specs.declared.node.Node.{Node}
use Rattle.interp_graph.specs.Restricted.{LimitedAt, shut_of}
use Rattle.interp_graph.proofs.Limiting.{limited_more}
use Rattle.interp_graph.proofs.ItemsByNumber.{item_is}
use Rattle.interp_graph.proofs.limited.limited_nodes.Goals as goal

pub loop-at-preserved : goal.loop-at-preserved
loop-at-preserved c =
    record {
      many = omega (arith, ap (λ (ns : List Node). length ns) c.in_ok-push.ensures.ok, length-append c.loop-at.nodes (c.in_ok-limited_node.field-0 ∷ []), c.loop-at.invariant.many);
      each = subst (λ (ns : List Node). (k : ℕ) → k < c.loop-at.at + 1 → LimitedAt (shut_of c.args.limits.now) ns c.args.sets.now c.args.graph.now.nodes k) (sym c.in_ok-push.ensures.ok)
          (limited_more (shut_of c.args.limits.now) c.loop-at.nodes c.args.sets.now c.args.graph.now.nodes c.loop-at.at c.in_ok-limited_node.field-0 c.node.result.now
          c.index-sets-at.result c.loop-at.invariant.many c.loop-at.invariant.each
          (item_is c.args.sets.now c.loop-at.at c.index-sets-at.result (omega (arith, c.requires, c.nodes-at-end.ensures, c.loop-at-test.true)) c.index-sets-at.is)
          c.node.ensures c.in_ok-limited_node.ensures);
    }
