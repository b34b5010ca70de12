-- What the laws of the checker's answers speak of.
use Rattle.std.specs.Prelude.{◌≤◌, ◌<◌, ◌^◌, Result, Ok, Err}
use Rattle.graph_form.specs.declared.report.Report.{Report}
use Rattle.report_check.specs.declared.answer.Checked.{Checked}
use Rattle.report_check.specs.declared.answer.Checked.TheVariants.{Right, Wrong}
use Rattle.report_check.specs.declared.answer.CheckFault.{CheckFault}
use Rattle.report_check.specs.declared.answer.CheckFault.TheVariants.{NotReport, Walks, NoMemory}

-- the report allows 1 to 64 rewrites, and its counts have 64 bits at most
pub record IsWritable (report : Report) : Type 0 where
  pub classes : report.classes < 2 ^ 64
  pub names : report.names < 2 ^ 64
  pub some : 1 ≤ report.rewrites
  pub few : report.rewrites ≤ 64

-- all entries are right, or too many walks keep that from being seen, or `NoMemory`
abbrev pub IsUnrefused : Result Checked CheckFault → Type 0
IsUnrefused (Ok (Right entries)) = Unit {0}
IsUnrefused (Ok (Wrong entry)) = ⊥
IsUnrefused (Err NotReport) = ⊥
IsUnrefused (Err (Walks entry)) = Unit {0}
IsUnrefused (Err NoMemory) = Unit {0}
