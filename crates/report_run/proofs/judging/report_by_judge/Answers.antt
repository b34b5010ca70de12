use Rattle.std.proofs.Common.{ℕ, sym, subst}
use Rattle.query_verdicts.specs.Passed.{IsRefusedFor, IsReportFault, NonePasses}
use Rattle.query_verdicts.specs.Queries.{most_states}
use Rattle.query_verdicts.specs.declared.report.JudgeFault.{JudgeFault}
use Rattle.verdict_book.specs.Lists.{IsPoolFault}
use Rattle.verdict_book.specs.declared.walk.PoolFault.{PoolFault}
use Rattle.report_run.specs.Budgets.{HasMoreNamesAt}
use Rattle.report_run.proofs.Budgets.{list_is_short, names_pass, states_pass}
use Rattle.report_run.proofs.judging.report_by_judge.Goals as goal

pub kept_report-requires-clause-few : goal.kept_report-requires-clause-few
kept_report-requires-clause-few g c =
    let N = g.N.Naming in
    list_is_short N.subject.below N.children_of c.args.limits.classes _ _ c.in-Ok.filed c.requires.limits.classes_most c.in-Ok.ensures.whole c.in-Ok.ensures.few

pub returns-in-Ok-kept_report : goal.returns-in-Ok-kept_report
returns-in-Ok-kept_report g c =
    let N = g.N.Naming in
    let tree = c.part_is_reached.ensures N.subject N.children_of c.requires.covering N.values.children c.args.limits.classes in (
      λ more. c.in-Ok.ensures.few (tree.1 more),
      subst (λ (states : ℕ). NonePasses N.subject states) (sym c.requires.states) c.in-Ok-kept_report.ensures.none_passes,
      c.in-Ok-kept_report.ensures.report,
    )

pub returns-in-Err-StatesPassed : goal.returns-in-Err-StatesPassed
returns-in-Err-StatesPassed g c =
    let N = g.N.Naming in
    let limit = c.args.limits.classes in
    let tree = c.part_is_reached.ensures N.subject N.children_of c.requires.covering N.values.children limit in
    states_pass limit (HasMoreNamesAt N.subject limit) (IsRefusedFor N.subject most_states) (NonePasses N.subject most_states) ⊥ c.too_many_states.result
    (λ more. c.in-Ok.ensures.few (tree.1 more)) c.in-Err-StatesPassed.query
    (subst (λ (states : ℕ). IsRefusedFor N.subject states c.in-Err-StatesPassed.query) (sym c.requires.states)
    (subst (λ (fault : JudgeFault). IsReportFault N.subject N.states fault) c.in-Err-StatesPassed.field-0-is c.in-Err-StatesPassed.ensures.fault))
    c.too_many_states.ensures

pub returns-in-Err-TooMany : goal.returns-in-Err-TooMany
returns-in-Err-TooMany g c =
    let N = g.N.Naming in
    let limit = c.args.limits.classes in
    let tree = c.part_is_reached.ensures N.subject N.children_of c.requires.covering N.values.children limit in
    names_pass limit (HasMoreNamesAt N.subject limit) (IsRefusedFor N.subject most_states) (NonePasses N.subject most_states) ⊥ c.too_many_names.result
    (tree.0 (subst (λ (fault : PoolFault). IsPoolFault N.subject.below N.children_of limit fault) c.in-Err-TooMany.field-0-is c.in-Err-TooMany.ensures.fault).1)
    c.too_many_names.ensures
