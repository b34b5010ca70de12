use Rattle.std.proofs.Common.{subst}
use Rattle.std.specs.Prelude.{MatchOption}
use Rattle.std.proofs.lemmas.Result.{IfOk-weaker}
use Rattle.query_verdicts.specs.Queries.{IsLeastGraph, LimitedQueries}
use Rattle.query_verdicts.specs.Verdict.{PassesStates, SomeServerPasses}
use Rattle.query_verdicts.proofs.name_judge.NameJudge.graph.Goals as goal

pub returns-clause-graph : goal.returns-clause-graph
returns-clause-graph g c =
    let query = c.args.query.now in
    IfOk-weaker c.graph.result _ _
    (λ found. subst (λ (q : LimitedQueries). MatchOption found (SomeServerPasses q.config q.rewrites q.states) (IsLeastGraph q.config q.rewrites query))
    c.self.invariant.queries_are) c.graph.ensures.graph

pub returns-clause-passed : goal.returns-clause-passed
returns-clause-passed g c = λ is.
    subst (λ (q : LimitedQueries). PassesStates q.config q.rewrites q.states c.args.query.now) c.self.invariant.queries_are (c.graph.ensures.passed is)
