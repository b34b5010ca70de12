use Rattle.std.proofs.Common.{Option, subst}
use Rattle.std.specs.Prelude.{IfSome}
use Rattle.straight_walks.specs.declared.ends.StraightEnds.{StraightEnds}
use Rattle.query_verdicts.specs.Queries.{AreStraightEnds}
use Rattle.query_verdicts.proofs.name_judge.NameJudge.judge_name.Goals as goal

pub straight_name-requires-clause-ends : goal.straight_name-requires-clause-ends
straight_name-requires-clause-ends g c =
    let subject = g.S.OnSubject.subject in
    subst (λ (found : Option StraightEnds). IfSome found (AreStraightEnds subject.config subject.rewrites g.S.OnSubject.states c.args.name.now.name)) c.in-Some.is c.requires.ends
