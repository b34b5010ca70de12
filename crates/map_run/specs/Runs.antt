-- What a run of words does.
use Rattle.std.specs.Prelude.{◌≡◌, ℕ, ◌⊎◌, List, Option, Some}
use Rattle.config_load.specs.Reading.{Reads}
use Rattle.config_load.specs.declared.loaded.Loaded.{Loaded}
use Rattle.run_endings.specs.Runs as runs
use Rattle.run_endings.specs.declared.ending.Ending.{Ending}
use Rattle.run_endings.specs.declared.status.Status.{Status}
use Rattle.run_endings.specs.declared.status.Status.TheVariants.{NoMemory}
use Rattle.map_run.specs.Loaded.{loaded}
use Rattle.map_run.specs.Outcome.{JobComesTo, NoJobReadFailed, Outcome}
use Rattle.map_run.specs.Words.{job_of}
use Rattle.map_run.specs.declared.words.MapJob.{MapJob}
use Rattle.map_run.specs.declared.words.MapView.{MapView}

-- For files that read, by the octets that were read of them, a run that is asked for this view ends in what the view gives,
-- and out got exactly its text; or memory ran out.
abbrev pub WritesView : MapView → (Loaded → Ending → Type 0) → List (List ℕ) → runs.FilesOfRun → runs.OutputOfRun → Status → Type 0
WritesView view Gives words files out status =
    (meta : List ℕ) (all : Loaded) → job_of words ≡ Some (record { asked = view; meta = meta }) → loaded meta files.told_after ≡ Reads all
    → NoJobReadFailed files.told_after (job_of words) files.failed_before files.failed_after → runs.NoneFailed out
    → ((ending : Ending) × Gives all ending × (status ≡ ending.status) × runs.GotText out ending.out) ⊎ (status ≡ NoMemory)

-- how the run of a job ends, up to the writing
abbrev pub JobEnds : Option MapJob → runs.FilesOfRun → Ending → Type 0
JobEnds job = runs.Ends (λ told. Outcome told job) (λ told. JobComesTo told job)

-- how a run of words ends, up to the writing
abbrev pub EndsAsAsked : List (List ℕ) → runs.FilesOfRun → Ending → Type 0
EndsAsAsked words = JobEnds (job_of words)

-- what a run of words does, as it is seen from outside
abbrev pub RunsAsAsked : List (List ℕ) → runs.FilesOfRun → runs.OutputOfRun → runs.OutputOfRun → Status → Type 0
RunsAsAsked words = runs.Runs (λ told. Outcome told (job_of words)) (λ told. JobComesTo told (job_of words))
