use Rattle.std.proofs.Common.{Option, sym, subst}
use Rattle.std.specs.Prelude.{IfSome}
use Rattle.std.proofs.lemmas.Result.{IfOk-weaker}
use Rattle.dns_data.specs.Name.{Labels}
use Rattle.net_model.specs.declared.class.Class.TheVariants.{Below}
use Rattle.straight_walks.specs.declared.ends.StraightEnds.{StraightEnds}
use Rattle.query_verdicts.specs.Queries.{AreStraightEnds, StandsFor}
use Rattle.query_verdicts.proofs.ClassesJudged.{stands_below}
use Rattle.query_verdicts.proofs.name_judge.NameJudge.class_below.Goals as goal

pub looked_class-requires : goal.looked_class-requires
looked_class-requires g c =
    let ground = g.S.OnSubject.subject.ground in
    let above = c.args.above.now in
    let query = c.args.query.now in
    subst (λ (n : Labels). StandsFor ground (Below n) query) (sym c.in_ok-copy-in-None.ensures) (stands_below ground above query c.requires)

pub returns-in-Some : goal.returns-in-Some
returns-in-Some g c =
    let subject = g.S.OnSubject.subject in
    let query = c.args.query.now in
    let are = subst (λ (found : Option StraightEnds). IfSome found (AreStraightEnds subject.config subject.rewrites g.S.OnSubject.states query)) c.in-Some.is c.in_ok-ends.ensures in
    IfOk-weaker c.verdict_by_ends.result _ _ (λ verdict so. so query are.verdict) c.verdict_by_ends.ensures
