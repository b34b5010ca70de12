use Rattle.std.proofs.Common.{Result, subst}
use Rattle.dns_data.specs.Name.{Labels}
use Rattle.straight_walks.specs.Straight.{NoOriginBelow}
use Rattle.query_verdicts.specs.Learnt.{IsLearntOf}
use Rattle.query_verdicts.specs.Queries.{LimitedQueries}
use Rattle.query_verdicts.specs.declared.learnt.Learnt.{Learnt}
use Rattle.query_verdicts.proofs.graphs.QueryGraphs.no_origin_below.Goals as goal

pub returns-in-Ok : goal.returns-in-Ok
returns-in-Ok c = λ none.
    let queries = c.self.inside.queries in
    let learnt = subst (λ (l : Result Learnt Labels). IsLearntOf queries.trees queries.rewrites queries.states l) c.in-Ok.is c.self.invariant in
    subst (λ (q : LimitedQueries). NoOriginBelow q.config c.args.name.now) c.self.view_is
    (c.none_below.ensures none queries.trees c.in-Ok.learnt.sets learnt.regions)
