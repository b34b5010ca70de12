use Rattle.outcome_laws.proofs.ReportExists.{config_has_report, subject_has_report}
use Rattle.outcome_laws.proofs.laws.report_exists.Goals as goal

pub returns : goal.returns
returns c = record { config = config_has_report; subject = subject_has_report }
