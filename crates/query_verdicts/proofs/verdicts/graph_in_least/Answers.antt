use Rattle.std.proofs.Common.{◌∙◌, List, ap, subst}
use Rattle.std.proofs.lemmas.Result.{IfOk-weaker}
use Rattle.dns_data.specs.Name.{Labels}
use Rattle.graph_form.specs.GraphOf.{IsExactIn, IsGraphOf}
use Rattle.net_model.specs.declared.deps.Deps.{Deps}
use Rattle.net_model.specs.Step.{following}
use Rattle.query_verdicts.proofs.FollowedAlike.{same_exact, same_graph}
use Rattle.query_verdicts.proofs.verdicts.graph_in_least.Goals as goal

pub returns-then-learnt-clause-graph : goal.returns-then-learnt-clause-graph
returns-then-learnt-clause-graph c = λ query built.
    let queries = c.args.queries.now in
    same_graph queries.trees queries.rewrites c.args.learnt.now.sets.least (c.requires.learnt.all_followed c.if-learnt.true) query c.args.graph built

pub returns-then-learnt-clause-exact : goal.returns-then-learnt-clause-exact
returns-then-learnt-clause-exact c = λ query built.
    let queries = c.args.queries.now in
    same_exact queries.trees queries.rewrites c.args.learnt.now.sets.least (c.requires.learnt.all_followed c.if-learnt.true) query c.args.graph built

pub restrict-requires : goal.restrict-requires
restrict-requires c = (c.args.queries.now.rewrites, c.requires.built.0, c.requires.built.1)

pub returns-clause-graph : goal.returns-clause-graph
returns-clause-graph c =
    let queries = c.args.queries.now in
    let same = c.items.ensures ∙ ap (λ (d : Deps). d.least) c.deps.ensures in
    IfOk-weaker c.restrict.result _ _
    (λ limited is query built. subst (λ (names : List Labels). IsGraphOf (following queries.trees queries.rewrites names) query limited) same (is queries.rewrites query built))
    c.restrict.ensures.graph

pub returns-clause-exact : goal.returns-clause-exact
returns-clause-exact c =
    let queries = c.args.queries.now in
    let same = c.items.ensures ∙ ap (λ (d : Deps). d.least) c.deps.ensures in
    IfOk-weaker c.restrict.result _ _
    (λ limited is query built. subst (λ (names : List Labels). IsExactIn (following queries.trees queries.rewrites names) query limited) same (is queries.rewrites query built))
    c.restrict.ensures.exact
