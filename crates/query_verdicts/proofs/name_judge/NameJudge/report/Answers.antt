use Rattle.std.proofs.Common.{◌∙◌, List, ◌≡◌, [], ◌∷◌, map, ap, refl}
use Rattle.graph_form.specs.declared.report.ReportEntry.{ReportEntry}
use Rattle.query_verdicts.proofs.name_judge.NameJudge.report.Goals as goal

pub returns-clause-report : goal.returns-clause-report
returns-clause-report g c =
    let made = c.in_ok-made.ensures.report in
    rw (made.keeps.classes, made.keeps.names, made.keeps.rewrites, made.keeps.entries ∙ as_they_are made.report.entries) made.is_report
  where
    as_they_are : (entries : List ReportEntry) → map (λ (entry : ReportEntry). entry) entries ≡ entries
    as_they_are [] = refl
    as_they_are (entry ∷ entries) = ap (λ rest. entry ∷ rest) (as_they_are entries)
