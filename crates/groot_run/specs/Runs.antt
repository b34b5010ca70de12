-- What a run of words does, of either program.
use Rattle.std.specs.Prelude.{◌≡◌, ℕ, ◌⊎◌, List, Ok}
use Rattle.net_model.specs.declared.config.Config.{Config}
use Rattle.config_load.specs.Load.{NoFailureIn}
use Rattle.config_load.specs.Reading.{Reads}
use Rattle.groot_line.specs.Job.{job_asked}
use Rattle.groot_line.specs.declared.job.Job.TheVariants.{OfConfig}
use Rattle.groot_line.specs.declared.job.Task.TheVariants.{Check}
use Rattle.groot_line.specs.declared.program.Program.{Program}
use Rattle.run_endings.specs.Endings.{no_memory}
use Rattle.run_endings.specs.Runs as runs
use Rattle.run_endings.specs.declared.ending.Ending.{Ending}
use Rattle.run_endings.specs.declared.status.Status.{Status}
use Rattle.run_endings.specs.declared.status.Status.TheVariants.{NoMemory}
use Rattle.site_checks.specs.Views.{Site}
use Rattle.groot_run.specs.Laws.{HasClasses}
use Rattle.groot_run.specs.Outcome.{Checks, JobComesTo, Outcome}
use Rattle.groot_run.specs.Programs.{conf_of}

-- the words ask for the check of files that read, of which no read failed
pub record ReadsForCheck (program : Program) (words : List (List ℕ)) (files : runs.FilesOfRun) (classes rewrites : ℕ) (config : Config) : Type 0 where
  pub meta : List ℕ
  pub workers : ℕ
  pub asked : job_asked program words ≡ Ok (OfConfig meta (Check workers classes rewrites))
  pub reads : conf_of program meta files.told_after ≡ Reads config
  pub none_failed : NoFailureIn (conf_of program meta) files.told_after files.failed_before files.failed_after

-- for files that read, by the octets that were read of them, a run ends in the report of their configuration
abbrev pub EndsInReport : Program → List (List ℕ) → runs.FilesOfRun → Ending → Type 0
EndsInReport program words files ending =
    (classes rewrites : ℕ) (config : Config) → ReadsForCheck program words files classes rewrites config
    → Checks classes rewrites config ending ⊎ (ending ≡ no_memory)

-- For files that read, by the octets that were read of them: each query name is in exactly one class and walks as its
-- class's representative; and out got exactly the text of their report, unless a budget is passed, and the status says
-- whether it has a fault.
abbrev pub WritesReport : Program → List (List ℕ) → runs.FilesOfRun → runs.OutputOfRun → Status → Type 0
WritesReport program words files out status =
    (classes rewrites : ℕ) (config : Config) → ReadsForCheck program words files classes rewrites config → runs.NoneFailed out
    → HasClasses config rewrites
    × (((ending : Ending) × Checks classes rewrites config ending × (status ≡ ending.status) × runs.GotText out ending.out)
    ⊎ (status ≡ NoMemory))

-- how a run of words ends, up to the writing
abbrev pub EndsAsAsked : Program → List (List ℕ) → List Site → runs.FilesOfRun → Ending → Type 0
EndsAsAsked program words sites =
    runs.Ends (λ told. Outcome program told (job_asked program words) sites) (λ told. JobComesTo program told (job_asked program words))

-- what a run of words does, as it is seen from outside
abbrev pub RunsAsAsked : Program → List (List ℕ) → List Site → runs.FilesOfRun → runs.OutputOfRun → runs.OutputOfRun → Status → Type 0
RunsAsAsked program words sites =
    runs.Runs (λ told. Outcome program told (job_asked program words) sites) (λ told. JobComesTo program told (job_asked program words))
