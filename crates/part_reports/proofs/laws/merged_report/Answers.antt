use Rattle.part_reports.proofs.InOrder.{never_refused}
use Rattle.part_reports.proofs.MergedReport.{merged_whole}
use Rattle.part_reports.proofs.laws.merged_report.Goals as goal

pub returns-clause-whole : goal.returns-clause-whole
returns-clause-whole c = λ config rewrites reports right merged is. merged_whole config rewrites reports right merged is

pub returns-clause-refused : goal.returns-clause-refused
returns-clause-refused c = λ config rewrites reports right fault is order. never_refused config rewrites reports right order fault is
