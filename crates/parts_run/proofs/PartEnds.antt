-- How a run ends that reads the names of a part, and the configuration behind them.
use Rattle.std.proofs.Common.{◌≡◌, ◌∙◌, ℕ, List, [], ◌∷◌, Some, Result, Ok, Err, sym, subst, ap, inl, inr, refl}
use Rattle.std.specs.Prelude.{◌⊎◌}
use Rattle.std.proofs.Math.Nat.{le_refl}
use Rattle.io_edges.specs.Counts.{NoneFell}
use Rattle.io_edges.specs.Files.{FilesTold, StaysTold, TellsAll}
use Rattle.config_load.specs.Conf.{conf_unless, row_skips}
use Rattle.config_load.specs.Faults.{FailedAt}
use Rattle.config_load.specs.Limits.{largest_limits}
use Rattle.config_load.specs.Load.{ComesToFile, FailedWhereItCame, Gives, OpensNoOther}
use Rattle.config_load.specs.Reading.{Reading, Reads, Refuses, Misses, Unknown, ◌>>=◌, file_octets}
use Rattle.config_load.specs.Taken.{GivesLeft, IsLeftOf, config_left}
use Rattle.config_load.specs.declared.fault.LoadFault.{LoadFault}
use Rattle.config_load.specs.declared.limits.Limits.{Limits}
use Rattle.config_load.proofs.Steady.{comes_behind, comes_first, file_is_steady, reads_later}
use Rattle.net_model.specs.declared.config.Config.{Config}
use Rattle.part_checks.specs.Parts.{held_by}
use Rattle.part_checks.specs.Skipped.{is_skipped}
use Rattle.part_checks.specs.Taking.{AreSeen, HasTaken, IsTakenWhole, Taking}
use Rattle.part_laws.specs.Part.{restricted_zone}
use Rattle.part_names.specs.declared.fault.NamesFault.{NamesFault}
use Rattle.part_names.specs.declared.fault.NamesFault.TheVariants.{Line, NoMemory}
use Rattle.part_names.specs.declared.names.PartNames.{PartNames}
use Rattle.part_run.specs.PartReported.{ReportsPart, faults_status}
use Rattle.graph_form.specs.declared.report.ReportEntry.{ReportEntry}
use Rattle.report_run.specs.declared.judging.CheckLimits.{CheckLimits}
use Rattle.run_endings.proofs.AsAsked.{Says, SaysSo, as_asked, ends_weaker, not_loaded, over_read, reading_says}
use Rattle.run_endings.specs.Ends.{EndsOver, IsNotLoaded}
use Rattle.run_endings.specs.Endings.{OfReading, no_memory, refused}
use Rattle.run_endings.specs.Runs.{FilesOfRun}
use Rattle.run_endings.specs.declared.ending.Ending.{Ending}
use Rattle.parts_run.specs.PartTold.{TellsPart, TellsRead, bad_line, behind_names, config_for, part_files}
use Rattle.parts_run.specs.Runs.{JobEnds}
use Rattle.parts_run.specs.declared.words.PartsJob.TheVariants.{Part}

-- ---- what is told says with its status whether out gets something

by_entries : (entries : List ReportEntry) (out : List ℕ) → Says (faults_status entries) out
by_entries [] out = tt
by_entries (entry ∷ entries) out = tt

reports_say : (limit rewrites : ℕ) (names : PartNames) (config : Config) (ending : Ending) → ReportsPart limit rewrites names config ending → SaysSo ending
reports_say limit rewrites names config ending (inl (more, is)) = subst SaysSo (sym is) refl
reports_say limit rewrites names config ending (inr (few, inl (query, first, is))) = subst SaysSo (sym is) refl
reports_say limit rewrites names config ending (inr (few, inr (none, told))) = subst SaysSo (sym told.as_text) (by_entries _ _)

part_says : (limits : CheckLimits) (file : List ℕ) (config : Config) (names : PartNames) (ending : Ending) → TellsPart limits file config names ending → SaysSo ending
part_says limits file config names ending (inl (kept, reports)) = reports_say limits.classes limits.rewrites names config ending reports
part_says limits file config names ending (inr refused) = subst SaysSo (sym refused.says) refl

read_says : (limits : CheckLimits) (file : List ℕ) (read : Result (PartNames × Config) NamesFault) (ending : Ending) → TellsRead limits file read ending → SaysSo ending
read_says limits file (Ok (names, config)) ending tells = part_says limits file config names ending tells
read_says limits file (Err (Line line)) ending is = subst SaysSo (sym is) refl
read_says limits file (Err NoMemory) ending never = absurd never

-- ---- a reading behind that of a file

module _ {T : Type 0} (limits : Limits) (file : List ℕ) (next : FilesTold → List ℕ → Reading T) (meta : List ℕ) (of_value : T → Ending → Type 0) (ending : Ending) where
  -- the reading of the file
  abbrev first : FilesTold → Reading (List ℕ)
  first = file_octets limits file

  -- a run that read the file ends as what follows says
  pub over_behind : (between told : FilesTold) (before middle after : List ℕ → ℕ) (octets : List ℕ) → first between ≡ Reads octets → StaysTold between told → NoneFell before middle
      → EndsOver {T = T} meta (λ told. next told octets) of_value told middle after ending → EndsOver {T = T} meta (λ told. first told >>= next told) of_value told before after ending
  over_behind between told before middle after octets reads stays none =
      ends_weaker before middle after ending none (λ outcome. subst (λ (read : Reading (List ℕ)). OfReading meta of_value (read >>= next told) ending) (sym later) outcome)
      (λ other comes. comes_behind first next (file_is_steady limits file) told octets other later comes)
    where
      later : first told ≡ Reads octets
      later = reads_later (file_is_steady limits file) between told octets stays reads

  -- a run that didn't read the file ends by that
  pub over_unread : (told : FilesTold) (before after : List ℕ → ℕ) (fault : LoadFault) → Gives {T = List ℕ} (first told) (Err fault)
      → FailedWhereItCame {T = List ℕ} first told (Err fault) → FailedAt {T = List ℕ} before after (Err fault) → IsNotLoaded meta fault ending ⊎ (ending ≡ no_memory)
      → EndsOver {T = T} meta (λ told. first told >>= next told) of_value told before after ending
  over_unread told before after fault gives came failed is =
      ends_weaker before before after ending (λ other. le_refl (before other)) (λ (fault, refuses, is). subst (λ (read : Reading (List ℕ)). OfReading meta of_value (read >>= next told) ending) (sym refuses) is)
      (λ other comes. comes_first first next told other comes) (not_loaded meta first told before after ending fault gives came failed is)

-- ---- the configuration behind the names

module _ (limits : CheckLimits) (meta file : List ℕ) where
  -- what follows these names
  abbrev behind : Result PartNames NamesFault → FilesTold → Reading (Result (PartNames × Config) NamesFault)
  behind = behind_names meta

  -- the configuration is what files give behind names
  with_names : (names : PartNames) (ending : Ending) (reading : Reading Config)
      → OfReading meta (λ config ending. TellsPart limits file config names ending) reading ending
      → OfReading meta (TellsRead limits file) (reading >>= λ config. Reads (Ok (names, config))) ending
  with_names names ending (Reads config) tells = tells
  with_names names ending (Refuses fault) is = is
  with_names names ending (Misses other) never = never
  with_names names ending (Unknown other) never = never

  comes_with : (names : PartNames) (told : FilesTold) (other : List ℕ) → ComesToFile (config_for names meta) told other → ComesToFile (behind (Ok names)) told other
  comes_with names told other comes = ap (λ (read : Reading Config). read >>= λ config. Reads (Ok (names, config))) comes

  -- a run over the configuration is one over what files give behind these names
  pub over_names : (names : PartNames) (read : Result PartNames NamesFault) → read ≡ Ok names → (told : FilesTold) (before after : List ℕ → ℕ) (ending : Ending)
      → EndsOver {T = Config} meta (config_for names meta) (λ config ending. TellsPart limits file config names ending) told before after ending
      → EndsOver {T = Result (PartNames × Config) NamesFault} meta (behind read) (TellsRead limits file) told before after ending
  over_names names read same told before after ending ends =
      subst (λ (one : Result PartNames NamesFault). EndsOver {T = Result (PartNames × Config) NamesFault} meta (behind one) (TellsRead limits file) told before after ending) (sym same) (by ends)
    where
      by : EndsOver {T = Config} meta (config_for names meta) (λ config ending. TellsPart limits file config names ending) told before after ending
          → EndsOver {T = Result (PartNames × Config) NamesFault} meta (behind (Ok names)) (TellsRead limits file) told before after ending
      by (inl outcome) = inl (with_names names ending (config_for names meta told) outcome)
      by (inr (inl (other, is, comes, rose))) = inr (inl (other, is, comes_with names told other comes, rose))
      by (inr (inr ran_out)) = inr (inr ran_out)

  -- no file is opened behind these names but those to which the configuration comes
  pub opens_names : (names : PartNames) (read : Result PartNames NamesFault) → read ≡ Ok names → (before after : FilesTold)
      → OpensNoOther (config_for names meta) before after → OpensNoOther (behind read) before after
  opens_names names read same before after opens =
      subst (λ (one : Result PartNames NamesFault). OpensNoOther (behind one) before after) (sym same) (λ other. by other (opens other))
    where
      by : (other : List ℕ) → (after other ≡ before other) ⊎ ComesToFile (config_for names meta) after other → (after other ≡ before other) ⊎ ComesToFile (behind (Ok names)) after other
      by other (inl kept) = inl kept
      by other (inr comes) = inr (comes_with names after other comes)

  -- a run over a file in which a line tells no name of a part ends by that
  pub over_bad_line : (read : Result PartNames NamesFault) (fault : NamesFault) (line : ℕ) → fault ≡ Line line → (fault ≡ NoMemory) ⊎ (read ≡ Err fault)
      → (told : FilesTold) (before after : List ℕ → ℕ) (ending : Ending) → (ending ≡ bad_line file line) ⊎ (ending ≡ no_memory)
      → EndsOver {T = Result (PartNames × Config) NamesFault} meta (behind read) (TellsRead limits file) told before after ending
  over_bad_line read fault line is (inl ran_out) told before after ending ends = absurd (cc)
  over_bad_line read fault line is (inr bad) told before after ending (inl ends) =
      inl (subst (λ (one : Result PartNames NamesFault). OfReading meta (TellsRead limits file) (behind one told) ending)
      (sym (bad ∙ ap {B = Result PartNames NamesFault} (λ (one : NamesFault). Err one) is)) ends)
  over_bad_line read fault line is (inr bad) told before after ending (inr ran_out) = inr (inr ran_out)

-- ---- the zones of the configuration taken

-- what was left of a configuration when its zones were taken
taken_whole : (first last : Taking) (whole taken : Config) → AreSeen first [] → IsLeftOf (restricted_zone (held_by first.names)) (HasTaken first last) whole taken
    → IsTakenWhole last whole taken
taken_whole first last whole taken none left = record {
  is = left.is ∙ ap (λ (names : PartNames). config_left (restricted_zone (held_by names)) whole) (sym left.taken.took_them.0);
  taken = record {
    taken = left.taken.taken;
    took_them = left.taken.took_them.1 none;
    each = left.taken.each;
    only = left.taken.only;
  };
}

-- a run that took the zones of a configuration ends by what is told of it, or because memory ran out
pub over_taken : (limits : CheckLimits) (meta file : List ℕ) (names : PartNames) (told : FilesTold) (before after : List ℕ → ℕ) (ending : Ending) (first last : Taking) (taken : Config)
    → AreSeen first [] → first.names ≡ names
    → (let result : Result Config LoadFault = Ok taken in
    GivesLeft (restricted_zone (held_by first.names)) (HasTaken first last) (conf_unless (row_skips (is_skipped first.names)) largest_limits meta told) result)
    → ((whole : Config) → IsTakenWhole last whole taken → TellsPart limits file whole names ending ⊎ (ending ≡ no_memory))
    → EndsOver {T = Config} meta (config_for names meta) (λ config ending. TellsPart limits file config names ending) told before after ending
over_taken limits meta file names told before after ending first last taken none same (whole, reads, left) tells =
    over_read meta (config_for names meta) told before after ending (λ config ending. TellsPart limits file config names ending) whole
    (subst (λ (all : PartNames). config_for all meta told ≡ Reads whole) same reads)
    (tells whole (taken_whole first last whole taken none left))

-- how the run ends that reads the names of a part and then a configuration is how the run of the words ends that ask for it
pub part_ended : (limits : CheckLimits) (meta names : List ℕ) (files : FilesOfRun) (ending : Ending)
    → EndsOver {T = Result (PartNames × Config) NamesFault} meta (part_files meta names) (TellsRead limits names) files.told_after files.failed_before files.failed_after ending
    → (TellsAll files.told_before → files.told_after ≡ files.told_before) → OpensNoOther (part_files meta names) files.told_before files.told_after
    → JobEnds (Some (Part meta names limits)) files ending
part_ended limits meta names files ending ends from_the_start opens =
    as_asked _ _ files ending
    (reading_says meta (TellsRead limits names) ending (λ read. read_says limits names read ending) (part_files meta names files.told_after))
    ends from_the_start opens
