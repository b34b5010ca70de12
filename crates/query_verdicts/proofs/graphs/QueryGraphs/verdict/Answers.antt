use Rattle.std.proofs.Common.{Result, sym, subst}
use Rattle.std.proofs.lemmas.Result.{IfOk-weaker}
use Rattle.dns_data.specs.Name.{Labels}
use Rattle.query_verdicts.specs.Learnt.{IsLearntOf}
use Rattle.query_verdicts.specs.Queries.{IsOwnClass, LimitedQueries}
use Rattle.query_verdicts.specs.Verdict.{IsClassVerdict}
use Rattle.query_verdicts.specs.declared.learnt.Learnt.{Learnt}
use Rattle.query_verdicts.proofs.ClassesJudged.{some_server}
use Rattle.query_verdicts.proofs.graphs.QueryGraphs.verdict.Goals as goal

pub verdict_with-requires-clause-learnt : goal.verdict_with-requires-clause-learnt
verdict_with-requires-clause-learnt c =
    let queries = c.self.inside.queries in
    subst (λ (l : Result Learnt Labels). IsLearntOf queries.trees queries.rewrites queries.states l) c.in-Ok.is c.self.invariant

pub verdict_with-requires-clause-own : goal.verdict_with-requires-clause-own
verdict_with-requires-clause-own c =
    subst (λ (q : LimitedQueries). IsOwnClass q.config c.args.own.now c.args.query.now) (sym c.self.view_is) c.requires

pub verdict_alone-requires : goal.verdict_alone-requires
verdict_alone-requires c =
    let queries = c.self.inside.queries in
    some_server queries.trees queries.rewrites queries.states c.in-Err.field-0
    (subst (λ (l : Result Learnt Labels). IsLearntOf queries.trees queries.rewrites queries.states l) c.in-Err.is c.self.invariant)

pub returns-in-Ok : goal.returns-in-Ok
returns-in-Ok c =
    IfOk-weaker c.verdict_with.result _ _
    (λ verdict. subst (λ (q : LimitedQueries). IsClassVerdict q.config q.rewrites q.states c.args.query.now verdict) c.self.view_is) c.verdict_with.ensures

pub returns-in-Err : goal.returns-in-Err
returns-in-Err c =
    IfOk-weaker c.verdict_alone.result _ _
    (λ verdict. subst (λ (q : LimitedQueries). IsClassVerdict q.config q.rewrites q.states c.args.query.now verdict) c.self.view_is) c.verdict_alone.ensures
