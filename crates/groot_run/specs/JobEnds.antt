-- For the code alone, no public clause cites it: how a run of a job ends.
use Rattle.std.specs.Prelude.{ℕ, List, Result}
use Rattle.io_edges.specs.Files.{FilesTold}
use Rattle.groot_line.specs.declared.fault.LineFault.{LineFault}
use Rattle.groot_line.specs.declared.job.Job.{Job}
use Rattle.groot_line.specs.declared.program.Program.{Program}
use Rattle.net_model.specs.declared.config.Config.{Config}
use Rattle.run_endings.specs.Ends as ends
use Rattle.run_endings.specs.declared.ending.Ending.{Ending}
use Rattle.site_checks.specs.Views.{Site}
use Rattle.groot_run.specs.Outcome.{JobComesTo, Outcome}
use Rattle.groot_run.specs.Programs.{conf_of}

-- how the run of a job ends
abbrev pub JobEnds : Program → FilesTold → Result Job LineFault → List Site → (List ℕ → ℕ) → (List ℕ → ℕ) → Ending → Type 0
JobEnds program told job sites before after ending = ends.EndsOrFails (Outcome program told job sites ending) (JobComesTo program told job) before after ending

-- how a run over the files of this metadata file ends, by what it gives of a configuration
abbrev pub EndsOverConfig : Program → List ℕ → (Config → Ending → Type 0) → FilesTold → (List ℕ → ℕ) → (List ℕ → ℕ) → Ending → Type 0
EndsOverConfig program meta of_config told before after ending = ends.EndsOver {T = Config} meta (conf_of program meta) of_config told before after ending

-- how a run over the files of this metadata file ends, where they give no configuration
abbrev pub EndsWithoutConfig : Program → List ℕ → FilesTold → (List ℕ → ℕ) → (List ℕ → ℕ) → Ending → Type 0
EndsWithoutConfig program meta told before after ending = ends.EndsWithout {T = Config} meta (conf_of program meta) told before after ending
