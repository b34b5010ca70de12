use Rattle.report_check.proofs.ReportRead.{report_is_read, report_right, unrefused}
use Rattle.report_check.proofs.laws.a_report_checks.Goals as goal

pub returns : goal.returns
returns c = record { right = report_right; read = report_is_read; answer = unrefused }
