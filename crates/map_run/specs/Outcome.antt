-- How a run ends, by its job and by what is told of the files.
use Rattle.std.specs.Prelude.{◌≡◌, ℕ, List, Option, Some, None}
use Rattle.io_edges.specs.Counts.{Rose}
use Rattle.io_edges.specs.Files.{FilesTold}
use Rattle.map_run.specs.Loaded.{loaded}
use Rattle.config_load.specs.Load.{ComesToFile}
use Rattle.config_load.specs.declared.loaded.Loaded.{Loaded}
use Rattle.run_endings.specs.Endings.{OfReading, with_output, without_output}
use Rattle.run_endings.specs.declared.ending.Ending.{Ending}
use Rattle.run_endings.specs.declared.status.Status.TheVariants.{Clean, Usage}
use Rattle.map_run.specs.Aliases.{IsAliases}
use Rattle.map_run.specs.Chain.{chain_of}
use Rattle.map_run.specs.Copies.{copies_of}
use Rattle.map_run.specs.Delegations.{IsDelegations}
use Rattle.map_run.specs.Limits.{WithinLimits}
use Rattle.map_run.specs.Lines.{with_lines}
use Rattle.map_run.specs.Reached.{TellsRows}
use Rattle.map_run.specs.Records.{records_text}
use Rattle.map_run.specs.Servers.{IsServers}
use Rattle.map_run.specs.Targets.{IsTargets}
use Rattle.map_run.specs.Words.{usage_line}
use Rattle.map_run.specs.declared.words.MapView.{MapView}
use Rattle.map_run.specs.declared.words.MapView.TheVariants.{Records, Reached, Targets, Delegations, Copies, Servers, Aliases, Chain}
use Rattle.map_run.specs.declared.words.MapJob.{MapJob}

-- what a view prints of a configuration: for `records` the lines of all records, for `reached` the lines of all rows,
-- for `targets` the lines of the records whose target leads nowhere, for `delegations` those of the zone cuts and origins
-- at which there is a finding, for `copies` those of all copies, for `servers` those of all names of name servers, for
-- `aliases` those of the aliases for whose target their server answers otherwise, for `chain` those of DS records and keys
abbrev pub TellsAsked : MapView → Loaded → Ending → Type 0
TellsAsked Records all ending = ending ≡ with_output Clean (records_text all)
TellsAsked Reached all ending = WithinLimits all.config all.rows (TellsRows all.config all.rows ending) ending
TellsAsked Targets all ending = IsTargets all ending
TellsAsked Delegations all ending = IsDelegations all ending
TellsAsked Copies all ending = ending ≡ with_lines (copies_of all)
TellsAsked Servers all ending = IsServers all ending
TellsAsked Aliases all ending = IsAliases all ending
TellsAsked Chain all ending = ending ≡ with_lines (chain_of all)

-- what the words' job gives, by what is told of the files
abbrev pub Outcome : FilesTold → Option MapJob → Ending → Type 0
Outcome told None ending = ending ≡ without_output Usage usage_line
Outcome told (Some job) ending = OfReading job.meta (TellsAsked job.asked) (loaded job.meta told) ending

-- The job comes to the file: every step of its reading before gives no refusal, and comes to no opened name that isn't
-- held.
abbrev pub JobComesTo : FilesTold → Option MapJob → List ℕ → Type 0
JobComesTo told None file = ⊥
JobComesTo told (Some job) file = ComesToFile (loaded job.meta) told file

-- no count of a file rose to which the job comes
abbrev pub NoJobReadFailed : FilesTold → Option MapJob → (List ℕ → ℕ) → (List ℕ → ℕ) → Type 0
NoJobReadFailed told job before after = (file : List ℕ) → JobComesTo told job file → Rose (before file) (after file) → ⊥
