use Rattle.std.proofs.Common.{Result, subst}
use Rattle.dns_data.specs.Name.{Labels}
use Rattle.query_verdicts.specs.Learnt.{IsLearntOf}
use Rattle.query_verdicts.specs.Queries.{IsLeastGraph, LimitedQueries}
use Rattle.query_verdicts.specs.Verdict.{PassesStates, SomeServerPasses}
use Rattle.query_verdicts.specs.declared.learnt.Learnt.{Learnt}
use Rattle.query_verdicts.proofs.ClassesJudged.{some_server}
use Rattle.query_verdicts.proofs.graphs.QueryGraphs.graph.Goals as goal

pub graph_in_least-requires-clause-learnt : goal.graph_in_least-requires-clause-learnt
graph_in_least-requires-clause-learnt c =
    let queries = c.self.inside.queries in
    subst (λ (l : Result Learnt Labels). IsLearntOf queries.trees queries.rewrites queries.states l) c.in-Ok.is c.self.invariant

pub graph_in_least-requires-clause-built : goal.graph_in_least-requires-clause-built
graph_in_least-requires-clause-built c = (c.args.query.now, c.in_ok-graph.ensures.built)

pub returns-in_ok-limited-in-Ok-clause-graph : goal.returns-in_ok-limited-in-Ok-clause-graph
returns-in_ok-limited-in-Ok-clause-graph c =
    let queries = c.self.inside.queries in
    let query = c.args.query.now in
    let learnt = subst (λ (l : Result Learnt Labels). IsLearntOf queries.trees queries.rewrites queries.states l) c.in-Ok.is c.self.invariant in
    subst (λ (q : LimitedQueries). IsLeastGraph q.config q.rewrites query c.in_ok-limited-in-Ok.limited) c.self.view_is
    (record {
      followed = c.in-Ok.learnt.sets.least;
      in_force = learnt.sets.least;
      is_graph = c.in_ok-limited-in-Ok.ensures.graph query c.in_ok-graph.ensures.built;
      exact = c.in_ok-limited-in-Ok.ensures.exact query c.in_ok-graph.ensures.built;
    })

pub returns-in_ok-limited-in-Ok-clause-few : goal.returns-in_ok-limited-in-Ok-clause-few
returns-in_ok-limited-in-Ok-clause-few c =
    subst (λ (q : LimitedQueries). PassesStates q.config q.rewrites q.states c.args.query.now → ⊥) c.self.view_is c.in_ok-graph.ensures.few

pub returns-in-Err-clause-graph : goal.returns-in-Err-clause-graph
returns-in-Err-clause-graph c =
    let queries = c.self.inside.queries in
    subst (λ (q : LimitedQueries). SomeServerPasses q.config q.rewrites q.states) c.self.view_is
    (some_server queries.trees queries.rewrites queries.states c.in-Err.field-0
    (subst (λ (l : Result Learnt Labels). IsLearntOf queries.trees queries.rewrites queries.states l) c.in-Err.is c.self.invariant))

pub returns-in-Err-clause-few : goal.returns-in-Err-clause-few
returns-in-Err-clause-few c =
    subst (λ (q : LimitedQueries). PassesStates q.config q.rewrites q.states c.args.query.now → ⊥) c.self.view_is c.in_ok-graph.ensures.few
