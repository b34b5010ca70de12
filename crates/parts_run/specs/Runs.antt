-- What a run of words does.
use Rattle.std.specs.Prelude.{◌≡◌, ◌⊎◌, ℕ, not, ◌==◌, List, length, Option, Some, Ok}
use Rattle.std.specs.List.{AllZip}
use Rattle.graph_form.specs.Report.{IsReport}
use Rattle.graph_form.specs.declared.report.Report.{Report}
use Rattle.io_edges.specs.Files.{FilesTold, StaysTold}
use Rattle.net_model.specs.declared.config.Config.{Config}
use Rattle.config_load.specs.Conf.{conf_within}
use Rattle.config_load.specs.Limits.{largest_limits}
use Rattle.config_load.specs.Reading.{Reads, file_octets}
use Rattle.query_verdicts.specs.Carried.{whole_config}
use Rattle.query_verdicts.specs.Passed.{SomeClassPasses}
use Rattle.query_verdicts.specs.Queries.{most_states}
use Rattle.report_json.specs.Report.{report_text}
use Rattle.part_form.specs.PartText.{part_text}
use Rattle.part_laws.specs.Part.{restricted}
use Rattle.part_names.specs.PartNames.{names_in}
use Rattle.part_names.specs.declared.names.PartNames.{PartNames}
use Rattle.part_checks.specs.Parts.{held_by}
use Rattle.part_checks.specs.Rules.{Keeps}
use Rattle.part_checks.specs.declared.fault.PartRule.{PartRule}
use Rattle.part_reports.specs.Reported.{Reported, AreReportsOf, IsReportOf, StandInOrder}
use Rattle.report_run.specs.Budgets.{HasMoreNames}
use Rattle.report_run.specs.declared.judging.CheckLimits.{CheckLimits}
use Rattle.run_endings.specs.Runs as runs
use Rattle.run_endings.specs.declared.ending.Ending.{Ending}
use Rattle.run_endings.specs.declared.status.Status.{Status}
use Rattle.run_endings.specs.declared.status.Status.TheVariants.{Classes, NoMemory, Refused, States}
use Rattle.parts_run.specs.Outcome.{JobComesTo, NoJobReadFailed, Outcome, faults_status}
use Rattle.parts_run.specs.Words.{job_of}
use Rattle.parts_run.specs.declared.words.PartsJob.{PartsJob}
use Rattle.parts_run.specs.declared.words.PartsJob.TheVariants.{Merge, Part}

-- out got exactly the text of the report of this configuration, and the status says whether the report has an entry
pub record WritesReport (config : Config) (rewrites : ℕ) (out : runs.OutputOfRun) (status : Status) : Type 0 where
  pub report : Report
  pub is_report : IsReport (whole_config config rewrites) report
  pub got : runs.GotText out (report_text report)
  pub says : status ≡ faults_status (not (length report.entries == 0))

-- If what is read of each file that the words ask to merge is the text of the report of a part of a configuration, out got
-- exactly the text of the report of the whole; or the reports don't stand in order, and are refused; or memory ran out.
abbrev pub MergesParts : List (List ℕ) → runs.FilesOfRun → runs.OutputOfRun → Status → Type 0
MergesParts words files out status =
    (names : List (List ℕ)) → job_of words ≡ Some (Merge names)
    → (config : Config) (rewrites : ℕ) (reports : List Reported) → AreReportsOf config rewrites reports
    → AllZip (λ name reported. file_octets largest_limits name files.told_after ≡ Reads (part_text reported.written)) names reports
    → NoJobReadFailed files.told_after (job_of words) files.failed_before files.failed_after → runs.NoneFailed out
    → WritesReport config rewrites out status ⊎ (((status ≡ Refused) × (StandInOrder reports → ⊥)) ⊎ (status ≡ NoMemory))

-- out got exactly the text of the report of the part of the configuration that has these names, and the status says whether
-- it has an entry; `merge` asks that of a report
pub record WritesPart (config : Config) (rewrites : ℕ) (names : PartNames) (out : runs.OutputOfRun) (status : Status) : Type 0 where
  pub reported : Reported
  pub is_report : IsReportOf config rewrites reported
  pub names_are : reported.names ≡ held_by names
  pub from_is : reported.written.from ≡ names.from
  pub to_is : reported.written.to ≡ names.to
  pub got : runs.GotText out (part_text reported.written)
  pub says : status ≡ faults_status (not (length reported.written.entries == 0))

-- the names make no part of the configuration, and are refused
pub record RefusesNames (config : Config) (names : PartNames) (status : Status) : Type 0 where
  pub rule : PartRule
  pub fails : Keeps config names rule → ⊥
  pub says : status ≡ Refused

-- a budget is passed: what is left has too many names, or a representative of it reaches too many pairs of state and type
abbrev pub PassesLimit : CheckLimits → Config → Status → Type 0
PassesLimit limits left status =
    (HasMoreNames left limits.classes × (status ≡ Classes))
    ⊎ (SomeClassPasses (whole_config left limits.rewrites) most_states × (status ≡ States))

-- If the configuration of the metadata file reads that the words ask about, by what is told after the run and of the files
-- that it didn't open, and the file of a part's names tells some, out got the report of this part, or the names make no
-- part; or a budget is passed, or memory ran out.
abbrev pub ReportsParts : List (List ℕ) → runs.FilesOfRun → runs.OutputOfRun → Status → Type 0
ReportsParts words files out status =
    (meta file octets : List ℕ) (limits : CheckLimits) (config : Config) (names : PartNames) (later : FilesTold) → job_of words ≡ Some (Part meta file limits)
    → StaysTold files.told_after later → conf_within largest_limits meta later ≡ Reads config
    → file_octets largest_limits file later ≡ Reads octets → names_in octets ≡ Ok names
    → NoJobReadFailed files.told_after (job_of words) files.failed_before files.failed_after → runs.NoneFailed out
    → WritesPart config limits.rewrites names out status
    ⊎ (RefusesNames config names status ⊎ (PassesLimit limits (restricted (held_by names) config) status ⊎ (status ≡ NoMemory)))

-- how the run of a job ends, up to the writing
abbrev pub JobEnds : Option PartsJob → runs.FilesOfRun → Ending → Type 0
JobEnds job = runs.Ends (λ told. Outcome told job) (λ told. JobComesTo told job)

-- how a run of words ends, up to the writing
abbrev pub EndsAsAsked : List (List ℕ) → runs.FilesOfRun → Ending → Type 0
EndsAsAsked words = JobEnds (job_of words)

-- what a run of words does, as it is seen from outside
abbrev pub RunsAsAsked : List (List ℕ) → runs.FilesOfRun → runs.OutputOfRun → runs.OutputOfRun → Status → Type 0
RunsAsAsked words = runs.Runs (λ told. Outcome told (job_of words)) (λ told. JobComesTo told (job_of words))
