use Rattle.std.proofs.Common.{Option, subst}
use Rattle.dns_data.specs.Name.{Labels}
use Rattle.query_verdicts.specs.Subjects.{RepresentsBelow}
use Rattle.query_verdicts.proofs.name_judge.NameJudge.judge_below.Goals as goal

pub class_below-requires : goal.class_below-requires
class_below-requires g c =
    subst (λ (found : Option Labels). RepresentsBelow g.S.OnSubject.subject.ground c.args.above.now.name found) c.in-Some.is c.in_ok-query.ensures

pub returns-in_ok-verdict-in-Some : goal.returns-in_ok-verdict-in-Some
returns-in_ok-verdict-in-Some g c =
    let stands = subst (λ (found : Option Labels). RepresentsBelow g.S.OnSubject.subject.ground c.args.above.now.name found) c.in-Some.is c.in_ok-query.ensures in
    (c.in-Some.query, stands.represents, c.in_ok-verdict-in-Some.ensures)

pub returns-in-None : goal.returns-in-None
returns-in-None g c =
    subst (λ (found : Option Labels). RepresentsBelow g.S.OnSubject.subject.ground c.args.above.now.name found) c.in-None.is c.in_ok-query.ensures
