use Rattle.std.proofs.Common.{Result, subst}
use Rattle.dns_data.specs.Name.{Labels}
use Rattle.query_verdicts.specs.Learnt.{IsLearntOf}
use Rattle.query_verdicts.specs.Passed.{IsFirstServerPassed}
use Rattle.query_verdicts.specs.Queries.{AreSets, LimitedQueries}
use Rattle.query_verdicts.specs.declared.learnt.Learnt.{Learnt}
use Rattle.query_verdicts.proofs.graphs.QueryGraphs.sets.Goals as goal

pub returns-in-Ok-clause-sets : goal.returns-in-Ok-clause-sets
returns-in-Ok-clause-sets c =
    let queries = c.self.inside.queries in
    let learnt = subst (λ (l : Result Learnt Labels). IsLearntOf queries.trees queries.rewrites queries.states l) c.in-Ok.is c.self.invariant in
    subst (λ (q : LimitedQueries). AreSets q.config q.rewrites q.states c.in-Ok.learnt.sets) c.self.view_is learnt.sets

pub returns-in-Err-clause-passed : goal.returns-in-Err-clause-passed
returns-in-Err-clause-passed c =
    let queries = c.self.inside.queries in
    subst (λ (q : LimitedQueries). IsFirstServerPassed q.config q.rewrites q.states c.in-Err.server) c.self.view_is
    (subst (λ (l : Result Learnt Labels). IsLearntOf queries.trees queries.rewrites queries.states l) c.in-Err.is c.self.invariant)
