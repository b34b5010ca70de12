use Rattle.std.proofs.Common.{Option, subst}
use Rattle.std.specs.Prelude.{IfSome}
use Rattle.dns_data.specs.declared.rr_type.RrType.TheVariants as types
use Rattle.straight_walks.specs.Straight.{NoOriginBelow}
use Rattle.straight_walks.specs.declared.ends.StraightEnds.{StraightEnds}
use Rattle.query_verdicts.specs.Queries.{AreStraightEnds, LimitedQueries}
use Rattle.query_verdicts.specs.Verdict.{IsQuiet}
use Rattle.query_verdicts.proofs.QuietBelow.{holds_of_all}
use Rattle.query_verdicts.proofs.StraightVerdicts.{judged_quiet}
use Rattle.query_verdicts.proofs.name_judge.NameJudge.all_quiet.Goals as goal

pub returns-else-not-tell_no_fault : goal.returns-else-not-tell_no_fault
returns-else-not-tell_no_fault g c = λ all.
    let subject = g.S.OnSubject.subject in
    let states = g.S.OnSubject.states in
    let query = c.args.query.now in
    let ends = c.in-Some.ends in
    let none = c.tell_no_fault.ensures c.if-not-tell_no_fault.false query types.A in
    let are = subst (λ (found : Option StraightEnds). IfSome found (AreStraightEnds subject.config subject.rewrites states query)) c.in-Some.is c.requires in
    holds_of_all subject.config (IsQuiet subject states) query
    (subst (λ (q : LimitedQueries). NoOriginBelow q.config query) c.self.invariant.queries_are (c.no_origin_below.ensures all))
    (λ name between. judged_quiet subject.config subject.rewrites states query name ends none (are.verdict_below c.if-not-ends.false name between))
