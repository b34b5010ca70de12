use Rattle.std.proofs.Common.{Result, subst}
use Rattle.std.specs.Prelude.{IfOk, IfSome}
use Rattle.dns_data.specs.Name.{Labels}
use Rattle.query_verdicts.specs.Learnt.{IsLearntOf}
use Rattle.query_verdicts.specs.Queries.{AreStraightEnds, LimitedQueries}
use Rattle.query_verdicts.specs.declared.learnt.Learnt.{Learnt}
use Rattle.query_verdicts.proofs.StraightVerdicts.{straight_ends}
use Rattle.query_verdicts.proofs.graphs.QueryGraphs.straight_ends.Goals as goal

pub straight_ends-requires-clause-table : goal.straight_ends-requires-clause-table
straight_ends-requires-clause-table c =
    let queries = c.self.inside.queries in
    (subst (λ (l : Result Learnt Labels). IsLearntOf queries.trees queries.rewrites queries.states l) c.in-Ok.is c.self.invariant).table

pub straight_ends-requires-clause-regions : goal.straight_ends-requires-clause-regions
straight_ends-requires-clause-regions c =
    let queries = c.self.inside.queries in
    (subst (λ (l : Result Learnt Labels). IsLearntOf queries.trees queries.rewrites queries.states l) c.in-Ok.is c.self.invariant).regions

pub returns-in-Ok : goal.returns-in-Ok
returns-in-Ok c =
    let queries = c.self.inside.queries in
    let learnt = subst (λ (l : Result Learnt Labels). IsLearntOf queries.trees queries.rewrites queries.states l) c.in-Ok.is c.self.invariant in
    let told = c.straight_ends.ensures in
    subst (λ (q : LimitedQueries). IfOk c.straight_ends.result (λ found. IfSome found (AreStraightEnds q.config q.rewrites q.states c.args.query.now))) c.self.view_is
    (straight_ends queries.trees queries.rewrites queries.states c.args.query.now c.in-Ok.learnt.sets learnt.sets c.straight_ends.result
    told.few told.shown told.bounded told.outcomes told.few_below told.shown_below told.few_unnamed told.shown_unnamed)
