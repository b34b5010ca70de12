use Rattle.std.proofs.Common.{sym, subst}
use Rattle.dns_data.specs.Name.{Labels}
use Rattle.query_verdicts.specs.Passed.{IsFirstServerPassed}
use Rattle.query_verdicts.specs.Queries.{LimitedQueries}
use Rattle.query_verdicts.specs.Verdict.{SomeServerPasses}
use Rattle.query_verdicts.proofs.name_judge.NameJudge.server_passed.Goals as goal

pub returns-in-Ok : goal.returns-in-Ok
returns-in-Ok g c =
    subst (λ (q : LimitedQueries). SomeServerPasses q.config q.rewrites q.states → ⊥) c.self.invariant.queries_are c.in-Ok.ensures.sets.none_passes

pub returns-in_ok-copy-in-Err : goal.returns-in_ok-copy-in-Err
returns-in_ok-copy-in-Err g c =
    let subject = g.S.OnSubject.subject in
    subst (λ (name : Labels). IsFirstServerPassed subject.config subject.rewrites g.S.OnSubject.states name) (sym c.in_ok-copy-in-Err.ensures)
    (subst (λ (q : LimitedQueries). IsFirstServerPassed q.config q.rewrites q.states c.in-Err.server.now) c.self.invariant.queries_are c.in-Err.ensures.passed)
