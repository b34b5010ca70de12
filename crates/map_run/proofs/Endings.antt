-- How the run of a job ends is how the run of its words ends.
use Rattle.std.proofs.Common.{◌≡◌, ◌∙◌, ℕ, Bool, true, false, List, Option, Some, None, Err, sym, subst, ap, inl, inr, refl}
use Rattle.std.specs.Prelude.{◌⊎◌, if◌then◌else◌}
use Rattle.std.specs.List.{list_all, list_any}
use Rattle.io_edges.specs.Files.{FilesTold, TellsAll}
use Rattle.map_run.specs.Loaded.{loaded}
use Rattle.dns_data.specs.Name.{Labels}
use Rattle.net_model.specs.declared.config.Config.{Config}
use Rattle.config_load.specs.Conf.{loaded_within}
use Rattle.config_load.specs.Faults.{FailedAt}
use Rattle.config_load.specs.Limits.{largest_limits}
use Rattle.config_load.specs.Load.{ComesToFile, FailedWhereItCame, Gives, OpensNoOther}
use Rattle.config_load.specs.Reading.{Reading, Reads}
use Rattle.config_load.specs.declared.fault.LoadFault.{LoadFault}
use Rattle.config_load.specs.declared.limits.Limits.{Limits}
use Rattle.config_load.specs.declared.loaded.Loaded.{Loaded}
use Rattle.run_endings.proofs.AsAsked.{Says, SaysSo, as_asked, over_fault, over_read, reading_says}
use Rattle.run_endings.proofs.Written.{whole}
use Rattle.run_endings.specs.Ends.{EndsOver, IsNotLoaded}
use Rattle.run_endings.specs.Endings.{OfReading, no_memory, without_output}
use Rattle.run_endings.specs.Runs.{FilesOfRun, OutputOfRun, IsWritten, Ends}
use Rattle.run_endings.specs.declared.ending.Ending.{Ending}
use Rattle.run_endings.specs.declared.status.Status.{Status}
use Rattle.run_endings.specs.declared.status.Status.TheVariants.{Clean, Faults, Usage}
use Rattle.name_ends.specs.declared.ends.NameEnds.{NameEnds}
use Rattle.map_run.specs.Asked.{GivenByEnds}
use Rattle.map_run.specs.Aliases.{aliases_of}
use Rattle.map_run.specs.Chain.{chain_of}
use Rattle.map_run.specs.Copies.{copies_of}
use Rattle.map_run.specs.Delegations.{delegations_of}
use Rattle.map_run.specs.Lines.{lines_text, with_lines}
use Rattle.map_run.specs.Outcome.{TellsAsked, Outcome}
use Rattle.map_run.specs.Reached.{reached_text}
use Rattle.map_run.specs.Runs.{EndsAsAsked, JobEnds, WritesView}
use Rattle.map_run.specs.Words.{job_of, usage_line}
use Rattle.map_run.specs.Servers.{servers_of}
use Rattle.map_run.specs.declared.lines.Line.{Line}
use Rattle.map_run.specs.Targets.{targets_of}
use Rattle.map_run.specs.declared.words.MapView.{MapView}
use Rattle.map_run.specs.declared.words.MapView.TheVariants.{Records, Reached, Targets, Delegations, Copies, Servers, Aliases, Chain}
use Rattle.map_run.specs.declared.words.MapJob.{MapJob}

-- ---- how a run ends by what was read says with its status whether out gets something

by_test : (test : Bool) (out : List ℕ) → Says (if test then Clean else Faults) out
by_test true out = tt
by_test false out = tt

lines_say : (lines : List Line) → SaysSo (with_lines lines)
lines_say lines = by (list_any (λ line. line.counts) lines) where
  by : (test : Bool) → Says (if test then Faults else Clean) (lines_text lines)
  by true = tt
  by false = tt

ends_say : (config : Config) (lines : (Labels → NameEnds) → List Line) (ending : Ending) → GivenByEnds config lines ending → SaysSo ending
ends_say config lines ending (inl (server, first, is)) = subst SaysSo (sym is) refl
ends_say config lines ending (inr tells) = subst SaysSo (sym tells.as_lines) (lines_say (lines tells.ends))

of_asked : (asked : MapView) (all : Loaded) (ending : Ending) → TellsAsked asked all ending → SaysSo ending
of_asked Records all ending is = subst SaysSo (sym is) tt
of_asked Reached all ending (inl (server, first, is)) = subst SaysSo (sym is) refl
of_asked Reached all ending (inr (few, inl (origin, first, is))) = subst SaysSo (sym is) refl
of_asked Reached all ending (inr (few, inr (none, tells))) = subst SaysSo (sym tells.as_text) (by_test (list_all (λ one. one) tells.reached) (reached_text 1 tells.reached all.rows))
of_asked Targets all ending is = ends_say all.config (targets_of all) ending is
of_asked Delegations all ending is = ends_say all.config (delegations_of all) ending is
of_asked Copies all ending is = subst SaysSo (sym is) (lines_say (copies_of all))
of_asked Servers all ending is = ends_say all.config (servers_of all) ending is
of_asked Aliases all ending (inl (server, first, is)) = subst SaysSo (sym is) refl
of_asked Aliases all ending (inr tells) = subst SaysSo (sym tells.as_lines) (lines_say (aliases_of all tells.walks))
of_asked Chain all ending is = subst SaysSo (sym is) (lines_say (chain_of all))

-- ---- by what the files give

module _ (limits : Limits) (largest : limits ≡ largest_limits) (own meta : List ℕ) (same : own ≡ meta) (asked : MapView) (files : FilesOfRun) (ending : Ending)
    (from_the_start : TellsAll files.told_before → files.told_after ≡ files.told_before)
    (opens : OpensNoOther {T = Loaded} (loaded_within limits own) files.told_before files.told_after) where
  ended : EndsOver {T = Loaded} own (loaded_within limits own) (TellsAsked asked) files.told_after files.failed_before files.failed_after ending
      → JobEnds (Some (record { asked = asked; meta = meta })) files ending
  ended ends =
      subst (λ (file : List ℕ). JobEnds (Some (record { asked = asked; meta = file })) files ending) same
      (subst (λ (limits : Limits). Ends (λ told. OfReading own (TellsAsked asked) (loaded_within limits own told)) (ComesToFile {T = Loaded} (loaded_within limits own)) files ending) largest
      (as_asked _ _ files ending (reading_says own (TellsAsked asked) ending (λ all. of_asked asked all ending) (loaded_within limits own files.told_after)) ends from_the_start opens))

  -- a run whose files were read ends by what was read, or because memory ran out
  pub over_loaded : (all : Loaded) → loaded_within limits own files.told_after ≡ Reads all → TellsAsked asked all ending ⊎ (ending ≡ no_memory)
      → JobEnds (Some (record { asked = asked; meta = meta })) files ending
  over_loaded all reads tells = ended (over_read own (loaded_within limits own) files.told_after files.failed_before files.failed_after ending (TellsAsked asked) all reads tells)

  -- a run whose files weren't read ends by the fault, or because memory ran out
  pub over_none : (fault : LoadFault) → Gives {T = Loaded} (loaded_within limits own files.told_after) (Err fault)
      → FailedWhereItCame {T = Loaded} (loaded_within limits own) files.told_after (Err fault)
      → FailedAt {T = Loaded} files.failed_before files.failed_after (Err fault) → IsNotLoaded own fault ending ⊎ (ending ≡ no_memory)
      → JobEnds (Some (record { asked = asked; meta = meta })) files ending
  over_none fault gives came failed is =
      ended (over_fault own (loaded_within limits own) files.told_after files.failed_before files.failed_after ending (TellsAsked asked) fault gives came failed is)

-- a run whose words are no job ends with the line that says what may be asked
pub without_job : (files : FilesOfRun) (ending : Ending) → files.told_after ≡ files.told_before → ending ≡ without_output Usage usage_line → JobEnds None files ending
without_job files ending same is =
    as_asked _ _ files ending (λ usage. subst SaysSo (sym usage) refl) (inl is) (λ tells. same) (λ file. inl (ap (λ (told : FilesTold). told file) same))

-- ---- how a run ends by what was read

-- a run whose job's outcome is this, of what was read, tells it
pub told_of_read : (told : FilesTold) (said : Option MapJob) (job : MapJob) (all : Loaded) (ending : Ending) → said ≡ Some job → loaded job.meta told ≡ Reads all
    → Outcome told said ending → TellsAsked job.asked all ending
told_of_read told said job all ending is reads outcome =
    subst (λ (read : Reading Loaded). OfReading job.meta (TellsAsked job.asked) read ending) reads
    (subst (λ (other : Option MapJob). Outcome told other ending) is outcome)

-- A run that is asked for a view of what was read writes what the view gives, where its text was written whole; or memory
-- ran out.
pub view_written : (view : MapView) (words : List (List ℕ)) (files : FilesOfRun) (out err : OutputOfRun) (ending : Ending) → EndsAsAsked words files ending
    → (status : Status) → IsWritten ending out err status → WritesView view (TellsAsked view) words files out status
view_written view words files out err ending ends status is meta all job reads none quiet =
    let wrote = whole ending out err status is quiet in
    elim (ends.complete none) [
      | inl outcome ↦ inl (ending, told_of_read files.told_after (job_of words) (record { asked = view; meta = meta }) all ending job reads outcome, wrote.0, wrote.1)
      | inr ran_out ↦ inr (wrote.0 ∙ ap (λ (one : Ending). one.status) ran_out)
    ]
