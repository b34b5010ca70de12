use Rattle.std.proofs.lemmas.Result.{IfOk-weaker}
use Rattle.label_graph.specs.Pairs.{ground_with}
use Rattle.label_graph.proofs.OrderedNames.{names_ordered, ground_ordered, ground_same, same_then}
use Rattle.label_graph.proofs.graph.LabelGraph.build.Goals as goal

pub of_ordered-requires-clause-order : goal.of_ordered-requires-clause-order
of_ordered-requires-clause-order c = names_ordered _ _ c.in_ok-names.ensures

pub of_ordered-requires-clause-closed : goal.of_ordered-requires-clause-closed
of_ordered-requires-clause-closed c = ground_ordered _ _ c.in_ok-names.ensures c.args.dnames.now c.requires

pub returns-clause-same : goal.returns-clause-same
returns-clause-same c =
    IfOk-weaker c.of_ordered.result _ _
    (λ graph same. same_then graph (ground_with c.in_ok-names.names.items c.args.dnames.now) (ground_with c.args.names.items c.args.dnames.now) same
    (ground_same _ _ c.in_ok-names.ensures c.args.dnames.now))
    c.of_ordered.ensures.same
