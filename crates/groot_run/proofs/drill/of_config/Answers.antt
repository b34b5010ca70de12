use Rattle.std.proofs.Common.{◌∙◌, ap, inl, inr, length}
use Rattle.std.proofs.lemmas.List.{length-map}
use Rattle.groot_run.specs.Outcome.{IsDrilled, drill_rewrites}
use Rattle.report_run.proofs.JudgedTrees.{with_report, without_report}
use Rattle.groot_run.proofs.drill.of_config.Goals as goal

pub returns-in-Ok : goal.returns-in-Ok
returns-in-Ok g c =
    with_report c.args.names drill_rewrites c.args.config.now (IsDrilled c.args.zones c.args.config.now c.drilled.result) c.drilled.result
    (λ entry. entry.seen.fault) c.in-Ok.report c.in-Ok.ensures
    (λ kept. elim (c.drilled.ensures kept.report kept.keeps.names (ap length kept.keeps.entries ∙ length-map kept.report.entries (λ entry. entry.seen.fault))) [
      | inl is ↦ inl (record { report = kept.report; is_report = kept.is_report; as_line = is })
      | inr ran_out ↦ inr ran_out
    ])

pub returns-in-Err : goal.returns-in-Err
returns-in-Err g c =
    without_report c.args.names drill_rewrites c.args.config.now (IsDrilled c.args.zones c.args.config.now c.in-Err.ending) c.in-Err.ending (λ entry. entry.seen.fault) c.in-Err.ensures
