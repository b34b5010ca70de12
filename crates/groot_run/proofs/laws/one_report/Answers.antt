-- That a subject has no two reports.
use Rattle.groot_run.proofs.OneReport as reports
use Rattle.groot_run.proofs.laws.one_report.Goals as goal

pub returns : goal.returns
returns c = record { one = reports.one_report }
