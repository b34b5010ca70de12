use Rattle.std.proofs.Common.{inl, inr}
use Rattle.groot_run.proofs.ScopeTexts.{within_budgets}
use Rattle.groot_run.proofs.scope.text_by_judge.Goals as goal

pub shown-requires-clause-none_passes : goal.shown-requires-clause-none_passes
shown-requires-clause-none_passes g c = c.in-Ok-report_by_judge.ensures.1

pub shown-requires-clause-report : goal.shown-requires-clause-report
shown-requires-clause-report g c = c.in-Ok-report_by_judge.ensures.2

pub returns-in-Ok-report_by_judge : goal.returns-in-Ok-report_by_judge
returns-in-Ok-report_by_judge g c = within_budgets c.args.names g.N.Naming.subject _ c.in-Ok-report_by_judge.ensures.0 c.in-Ok-report_by_judge.ensures.1 c.shown.result c.shown.ensures

pub returns : goal.returns
returns g c =
    elim c.in-Err.ensures.err [
      | inl past ↦ inl (inl past)
      | inr ran_out ↦ inr ran_out
    ]
