use Rattle.std.proofs.Common.{◌++◌, sym, subst}
use Rattle.query_verdicts.specs.Verdict.{IsClassVerdict}
use Rattle.query_verdicts.specs.declared.verdict.ClassVerdict.{ClassVerdict}
use Rattle.query_verdicts.proofs.name_judge.NameJudge.quiet_name.Goals as goal

pub below_with-requires-clause-below : goal.below_with-requires-clause-below
below_with-requires-clause-below g c = λ tail is.
    let subject = g.S.OnSubject.subject in
    subst (λ (verdict : ClassVerdict). IsClassVerdict subject.config subject.rewrites g.S.OnSubject.states (c.args.name.now.name ++ tail) verdict) (sym c.no_fault.ensures)
    (c.requires.below tail is)
