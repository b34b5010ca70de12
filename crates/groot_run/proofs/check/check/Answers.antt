use Rattle.std.proofs.Common.{inl, inr}
use Rattle.groot_run.specs.KeptText.{kept_text}
use Rattle.groot_run.specs.Outcome.{IsReported}
use Rattle.report_run.proofs.JudgedTrees.{with_report, without_report}
use Rattle.groot_run.proofs.check.check.Goals as goal

pub returns-in-Ok : goal.returns-in-Ok
returns-in-Ok g c =
    let limits = c.args.limits in
    with_report limits.classes limits.rewrites c.args.config.now (IsReported c.args.config.now limits.rewrites c.written.result) c.written.result
    kept_text c.in-Ok.report c.in-Ok.ensures
    (λ kept. elim (c.written.ensures kept.report kept.keeps) [
      | inl is ↦ inl (record { report = kept.report; is_report = kept.is_report; as_text = is })
      | inr ran_out ↦ inr ran_out
    ])

pub returns-in-Err : goal.returns-in-Err
returns-in-Err g c =
    let limits = c.args.limits in
    without_report limits.classes limits.rewrites c.args.config.now (IsReported c.args.config.now limits.rewrites c.in-Err.ending) c.in-Err.ending kept_text c.in-Err.ensures
