use Rattle.std.proofs.Common.{subst}
use Rattle.std.specs.Prelude.{IfSome}
use Rattle.std.proofs.lemmas.Result.{IfOk-weaker}
use Rattle.query_verdicts.specs.Queries.{AreStraightEnds, LimitedQueries}
use Rattle.query_verdicts.proofs.name_judge.NameJudge.straight.Goals as goal

pub returns : goal.returns
returns g c =
    IfOk-weaker c.straight_ends.result _ _
    (λ found. subst (λ (q : LimitedQueries). IfSome found (AreStraightEnds q.config q.rewrites q.states c.args.query.now)) c.self.invariant.queries_are) c.straight_ends.ensures
