-- What the judging of a subject answers.
use Rattle.std.specs.Prelude.{◌≡◌, ◌⊎◌, ◌<◌, ◌≤◌, ℕ, Result, Ok, Err}
use Rattle.graph_form.specs.Report.{Subject}
use Rattle.graph_form.specs.declared.report.ReportEntry.{ReportEntry}
use Rattle.groot_line.specs.Program.{largest_names}
use Rattle.query_verdicts.specs.Kept.{IsKeptReport}
use Rattle.query_verdicts.specs.declared.kept.KeptReport.{KeptReport}
use Rattle.query_verdicts.specs.Passed.{NonePasses}
use Rattle.query_verdicts.specs.Queries.{most_states}
use Rattle.run_endings.specs.declared.ending.Ending.{Ending}
use Rattle.report_run.specs.declared.judging.CheckLimits.{CheckLimits}
use Rattle.run_endings.specs.Endings.{no_memory}
use Rattle.report_run.specs.Budgets.{HasMoreNamesAt, WithinSubject}

-- a check may be so large: it has a worker, the class tree may have a name, and a query may use a rewrite
pub record AreLimits (limits : CheckLimits) : Type 0 where
  pub workers : 0 < limits.workers
  pub classes : 0 < limits.classes
  pub classes_most : limits.classes ≤ largest_names
  pub rewrites : 0 < limits.rewrites

-- What is kept of the report of the subject; or how a run ends that has none, since the subject has more names than the
-- limit, or else a representative in it or the name of a server reaches too many pairs.
abbrev pub IsJudged : {K : Type 0} → ℕ → Subject → (ReportEntry → K) → Result (KeptReport K) Ending → Type 0
IsJudged limit subject kept_of (Ok told) =
    (HasMoreNamesAt subject limit → ⊥) × NonePasses subject most_states × IsKeptReport subject kept_of told
IsJudged limit subject kept_of (Err ending) = WithinSubject subject limit ⊥ ending ⊎ (ending ≡ no_memory)
