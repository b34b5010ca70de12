-- The words that a top call is given are those that were handed over.
use Rattle.std.proofs.Common.{◌≡◌, ℕ, List, subst}
use Rattle.site_checks.specs.Views.{Site}
use Rattle.run_endings.specs.Runs.{FilesOfRun, OutputOfRun}
use Rattle.run_endings.specs.declared.status.Status.{Status}
use Rattle.groot_line.specs.declared.program.Program.{Program}
use Rattle.groot_run.specs.Runs.{RunsAsAsked}

-- what is said of a run of some words is said of one of the same words
pub of_same : (program : Program) (sites : List Site) (files : FilesOfRun) (out err : OutputOfRun) (status : Status) (given words : List (List ℕ)) → given ≡ words
    → RunsAsAsked program given sites files out err status → RunsAsAsked program words sites files out err status
of_same program sites files out err status given words same =
    subst (λ (said : List (List ℕ)). RunsAsAsked program said sites files out err status) same
