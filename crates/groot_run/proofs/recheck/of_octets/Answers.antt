use Rattle.std.proofs.Common.{◌∙◌, ◌++◌, Result, Ok, ap, codes, decimal}
use Rattle.report_check.specs.declared.answer.Checked.{Checked}
use Rattle.report_check.specs.declared.answer.Checked.TheVariants as checks
use Rattle.report_check.specs.declared.answer.CheckFault.{CheckFault}
use Rattle.groot_run.proofs.Rechecked.{by_answer, answers}
use Rattle.groot_run.proofs.recheck.of_octets.Goals as goal

pub returns-in-Ok-Right : goal.returns-in-Ok-Right
returns-in-Ok-Right c =
    by_answer c.args.report.now c.args.config.now c.args.octets.now c.check_report.result (Ok (checks.Right c.in-Ok-Right.entries)) c.written.result
    (c.in-Ok-Right.is ∙ ap {B = Result Checked CheckFault} (λ (checked : Checked). Ok checked) c.in-Ok-Right.field-0-is) (answers (checks.Right c.in-Ok-Right.entries)) c.check_report.ensures
    (c.written.ensures (codes "recheck: entries " ++ (decimal c.in-Ok-Right.entries ++ codes ", right\n")) c.right_line.ensures)

pub returns-in-Ok-Wrong : goal.returns-in-Ok-Wrong
returns-in-Ok-Wrong c =
    by_answer c.args.report.now c.args.config.now c.args.octets.now c.check_report.result (Ok (checks.Wrong c.in-Ok-Wrong.entry)) c.written-in-Ok-Wrong.result
    (c.in-Ok-Wrong.is ∙ ap {B = Result Checked CheckFault} (λ (checked : Checked). Ok checked) c.in-Ok-Wrong.field-0-is) (answers (checks.Wrong c.in-Ok-Wrong.entry)) c.check_report.ensures
    (c.written-in-Ok-Wrong.ensures (codes "recheck: entry " ++ (decimal c.in-Ok-Wrong.entry ++ codes " wrong\n")) c.wrong_line.ensures)
