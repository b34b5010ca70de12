-- What a job gives for checks that are handed in, whatever they are.
use Rattle.std.proofs.Common.{◌≡◌, ℕ, List, [], map, subst}
use Rattle.std.specs.Prelude.{◌⊎◌}
use Rattle.groot_line.specs.declared.program.Program.{Program}
use Rattle.net_model.specs.declared.config.Config.{Config}
use Rattle.site_checks.specs.Views.{Site}
use Rattle.run_endings.specs.declared.ending.Ending.{Ending}
use Rattle.run_endings.specs.Endings.{no_memory}
use Rattle.run_endings.specs.Runs.{FilesOfRun, OutputOfRun}
use Rattle.run_endings.specs.declared.status.Status.{Status}
use Rattle.groot_run.specs.Runs.{RunsAsAsked}
use Rattle.report_run.specs.Budgets.{WithinStates}
use Rattle.groot_run.specs.Outcome.{TellsFindings, site_rewrites}

-- what a run gives of a configuration it gives of each that equals it
pub of_the_config : (config other : Config) (sites : List Site) (ending : Ending) → config ≡ other
    → WithinStates config site_rewrites (TellsFindings config sites ending) ending ⊎ (ending ≡ no_memory)
    → WithinStates other site_rewrites (TellsFindings other sites ending) ending ⊎ (ending ≡ no_memory)
of_the_config config other sites ending same =
    subst (λ (one : Config). WithinStates one site_rewrites (TellsFindings one sites ending) ending ⊎ (ending ≡ no_memory)) same

-- if no check is handed in, the run is one without checks
pub without_checks : {B : Type 0} (means : B → Site) (all : List B) → all ≡ [] → (program : Program) (words : List (List ℕ)) (files : FilesOfRun) (out err : OutputOfRun) (status : Status)
    → RunsAsAsked program words (map means all) files out err status → RunsAsAsked program words [] files out err status
without_checks {B} means all none program words files out err status = subst (λ (bs : List B). RunsAsAsked program words (map means bs) files out err status) none
