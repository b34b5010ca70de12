use Rattle.std.proofs.Common.{Option, sym, subst}
use Rattle.dns_data.specs.Name.{Labels}
use Rattle.net_model.specs.Class.{class_name, IsRepresentative}
use Rattle.net_model.specs.declared.class.Class.{Class}
use Rattle.query_classes.specs.Children.{IsInTree}
use Rattle.query_verdicts.specs.Subjects.{RepresentsBelow}
use Rattle.query_verdicts.proofs.report.query_of.Goals as goal

pub representative_below-requires : goal.representative_below-requires
representative_below-requires g c =
    subst (λ (k : Class). IsInTree g.S.OnSubject.subject.ground (class_name k)) c.in-Below.is (c.requires.is_class.named, c.requires.is_class.is_name)

pub unreachable-requires : goal.unreachable-requires
unreachable-requires g c =
    let ground = g.S.OnSubject.subject.ground in
    let none = subst (λ (found : Option Labels). RepresentsBelow ground c.in-Below.above found) c.in-None.is c.in_ok-query-in-Below.ensures in
    none c.requires.some.0 (subst (λ (k : Class). IsRepresentative ground k c.requires.some.0) c.in-Below.is c.requires.some.1)

pub returns-in-Some : goal.returns-in-Some
returns-in-Some g c =
    let ground = g.S.OnSubject.subject.ground in
    let stands = rw c.in-Some.is at c.in_ok-query-in-Below.ensures in
    subst (λ (k : Class). IsRepresentative ground k c.in-Some.query) (sym c.in-Below.is) stands.represents
