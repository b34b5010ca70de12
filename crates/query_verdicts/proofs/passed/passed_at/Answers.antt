use Rattle.std.proofs.Common.{◌∙◌, sym, subst}
use Rattle.std.proofs.lemmas.Result.{IfOk-weaker}
use Rattle.query_verdicts.specs.Rows.{IsFirstPassedAt, IsPassedAt}
use Rattle.query_verdicts.specs.Subjects.{RepresentsBelow}
use Rattle.query_verdicts.proofs.ReportPassed.{exact_passes, below_found, none_passes_at}
use Rattle.query_verdicts.proofs.passed.passed_at.Goals as goal

pub returns-then-exact_passes : goal.returns-then-exact_passes
returns-then-exact_passes g c =
    let name = c.args.name.now in
    let verdict = c.args.verdict.now in
    subst (IsFirstPassedAt g.S.OnSubject.subject g.S.OnSubject.states name) (sym c.in_ok-copy.ensures)
    (exact_passes g.S.OnSubject.subject g.S.OnSubject.states name c.requires.in_part verdict.exact c.requires.verdict.exact (sym c.exact_passes.ensures ∙ c.if-exact_passes.true))

pub returns-then-below_passes : goal.returns-then-below_passes
returns-then-below_passes g c =
    let name = c.args.name.now in
    let verdict = c.args.verdict.now in
    IfOk-weaker c.representative_below.result (RepresentsBelow g.S.OnSubject.subject.ground name) (IsPassedAt g.S.OnSubject.subject g.S.OnSubject.states name)
    (below_found g.S.OnSubject.subject g.S.OnSubject.states name c.requires.in_part verdict.exact verdict.below c.requires.verdict.exact c.requires.verdict.below
    (sym c.exact_passes.ensures ∙ c.if-exact_passes.false) (sym c.below_passes.ensures ∙ c.if-below_passes.true)) c.representative_below.ensures

pub representative_below-requires : goal.representative_below-requires
representative_below-requires g c = (c.requires.in_part.named, c.requires.in_part.is_name)

pub returns : goal.returns
returns g c =
    let name = c.args.name.now in
    let verdict = c.args.verdict.now in
    none_passes_at g.S.OnSubject.subject g.S.OnSubject.states name c.requires.in_part verdict.exact verdict.below c.requires.verdict.exact c.requires.verdict.below
    (sym c.exact_passes.ensures ∙ c.if-exact_passes.false) (sym c.below_passes.ensures ∙ c.if-below_passes.false)
