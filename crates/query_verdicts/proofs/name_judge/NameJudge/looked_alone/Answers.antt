use Rattle.std.proofs.Common.{sym, subst}
use Rattle.dns_data.specs.Name.{Labels}
use Rattle.net_model.specs.declared.class.Class.TheVariants.{Exact}
use Rattle.query_verdicts.specs.Queries.{StandsFor}
use Rattle.query_verdicts.proofs.ClassesJudged.{stands_alone}
use Rattle.query_verdicts.proofs.name_judge.NameJudge.looked_alone.Goals as goal

pub looked_class-requires : goal.looked_class-requires
looked_class-requires g c =
    let ground = g.S.OnSubject.subject.ground in
    let name = c.args.name.now in
    subst (λ (n : Labels). StandsFor ground (Exact n) name) (sym c.in_ok-copy.ensures) (stands_alone ground name c.requires.0)
