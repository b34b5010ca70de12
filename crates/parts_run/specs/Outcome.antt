-- How a run ends, by its job and by what is told of the files.
use Rattle.std.specs.Prelude.{◌≡◌, ℕ, ◌-◌, Bool, List, [], length, codes, decimal, if◌then◌else◌, Option, Some, None, Result, Ok, Err}
use Rattle.io_edges.specs.Counts.{Rose}
use Rattle.io_edges.specs.Files.{FilesTold}
use Rattle.config_load.specs.Faults.{name_numbered}
use Rattle.config_load.specs.Load.{ComesToFile}
use Rattle.config_load.specs.Refusal.{fields_line}
use Rattle.part_form.specs.Merging.{IsMerged}
use Rattle.part_form.specs.Stated.{PartStated}
use Rattle.part_form.specs.declared.fault.MergeFault.{MergeFault}
use Rattle.part_form.specs.declared.fault.MergeFault.TheVariants.{OtherRewrites, NotNext, NotLast, TooMany, NoMemory}
use Rattle.part_form.specs.declared.merging.MergedText.{MergedText}
use Rattle.run_endings.specs.Endings.{OfReading, with_output, without_output}
use Rattle.run_endings.specs.declared.ending.Ending.{Ending}
use Rattle.run_endings.specs.declared.status.Status.{Status}
use Rattle.run_endings.specs.declared.status.Status.TheVariants.{Clean, Faults, Refused, Usage}
use Rattle.parts_run.specs.PartTold.{TellsRead, part_files}
use Rattle.parts_run.specs.Reading.{reports_read}
use Rattle.parts_run.specs.Words.{usage_line}
use Rattle.parts_run.specs.declared.words.PartsJob.{PartsJob}
use Rattle.parts_run.specs.declared.words.PartsJob.TheVariants.{Merge, Part}

-- the status of a report that has entries, or none
abbrev pub faults_status : Bool → Status
faults_status has_faults = if has_faults then Faults else Clean

-- the run ends with merged reports
abbrev pub with_merged : MergedText → Ending
with_merged merged = with_output (faults_status merged.has_faults) merged.text

-- the run refuses this file as a whole, with this code
abbrev pub refused_as : List ℕ → List ℕ → Ending
refused_as file code = without_output Refused (fields_line file (decimal 0) code)

-- the file of a fault: that of the report of its number, or the last
abbrev pub fault_file : List (List ℕ) → MergeFault → List ℕ
fault_file files (OtherRewrites number) = name_numbered files number
fault_file files (NotNext number) = name_numbered files number
fault_file files fault = name_numbered files (length files - 1)

-- the code of a fault, the word that is printed for it
abbrev pub fault_code : MergeFault → List ℕ
fault_code (OtherRewrites number) = codes "other-rewrites"
fault_code (NotNext number) = codes "not-next"
fault_code NotLast = codes "not-last"
fault_code TooMany = codes "too-many"
fault_code NoMemory = codes "no-memory"

-- the run ends by an answer to the reports of the files of these names; want of memory is no outcome
abbrev pub IsEndingOf : List (List ℕ) → Result MergedText MergeFault → Ending → Type 0
IsEndingOf files (Ok merged) ending = ending ≡ with_merged merged
IsEndingOf files (Err NoMemory) ending = ⊥
IsEndingOf files (Err fault) ending = ending ≡ refused_as (fault_file files fault) (fault_code fault)

-- what is told of what the files of these names gave: their reports merged, or why they aren't; or that a file holds none
abbrev pub TellsMerged : List (List ℕ) → Result (List PartStated) (List ℕ) → Ending → Type 0
TellsMerged files (Ok parts) ending = (answer : Result MergedText MergeFault) × IsMerged parts answer × IsEndingOf files answer ending
TellsMerged files (Err file) ending = ending ≡ refused_as file (codes "not-part-report")

-- what the words' job gives, by what is told of the files; of `merge` no refusal is of a metadata file
abbrev pub Outcome : FilesTold → Option PartsJob → Ending → Type 0
Outcome told None ending = ending ≡ without_output Usage usage_line
Outcome told (Some (Merge files)) ending = OfReading [] (TellsMerged files) (reports_read [] files told) ending
Outcome told (Some (Part meta names limits)) ending = OfReading meta (TellsRead limits names) (part_files meta names told) ending

-- The job comes to the file: for `merge` the files before it hold reports; `part` comes to the file of the part's names,
-- and where it tells some, to the files of the configuration.
abbrev pub JobComesTo : FilesTold → Option PartsJob → List ℕ → Type 0
JobComesTo told None file = ⊥
JobComesTo told (Some (Merge files)) file = ComesToFile (reports_read [] files) told file
JobComesTo told (Some (Part meta names limits)) file = ComesToFile (part_files meta names) told file

-- no count of a file rose to which the job comes
abbrev pub NoJobReadFailed : FilesTold → Option PartsJob → (List ℕ → ℕ) → (List ℕ → ℕ) → Type 0
NoJobReadFailed told job before after = (file : List ℕ) → JobComesTo told job file → Rose (before file) (after file) → ⊥
