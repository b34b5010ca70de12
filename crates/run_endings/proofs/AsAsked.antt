-- How the run of a job ends is how the run of its words ends, whichever program runs it.
use Rattle.std.proofs.Common.{◌≡◌, ℕ, List, [], Err, sym, subst, inl, inr, refl}
use Rattle.std.specs.Prelude.{◌⊎◌, IsTrue}
use Rattle.io_edges.specs.Counts.{NoneFell, Rose}
use Rattle.io_edges.specs.Files.{FilesTold, TellsAll}
use Rattle.config_load.proofs.Sources.{rose_then}
use Rattle.config_load.specs.Faults.{FailedAt}
use Rattle.config_load.specs.Load.{FailedWhereItCame, Gives}
use Rattle.config_load.specs.Reading.{Reading, Reads, Refuses, Misses, Unknown}
use Rattle.config_load.specs.declared.fault.LoadFault.{LoadFault}
use Rattle.config_load.specs.declared.fault.LoadFault.TheVariants as load_faults
use Rattle.run_endings.specs.Ends.{EndsOrFails, EndsOver, EndsWithout, IsNotLoaded}
use Rattle.run_endings.specs.Endings.{OfReading, no_memory, read_failed, writes_nothing}
use Rattle.run_endings.specs.Runs.{FilesOfRun, Ends}
use Rattle.run_endings.specs.declared.ending.Ending.{Ending}
use Rattle.run_endings.specs.declared.status.Status.{Status}
use Rattle.run_endings.specs.declared.status.Status.TheVariants.{Clean, Faults, ReadFault, WriteFault}

-- a run ends so if it ended, behind counts that never fell, in what says so, and came to no other files
pub ends_weaker : {EndsSo Ended : Type 0} {ComesTo Came : List ℕ → Type 0} (before middle after : List ℕ → ℕ) (ending : Ending) → NoneFell before middle → (Ended → EndsSo) → ((file : List ℕ) → Came file → ComesTo file)
    → EndsOrFails Ended Came middle after ending → EndsOrFails EndsSo ComesTo before after ending
ends_weaker before middle after ending none so comes (inl ended) = inl (so ended)
ends_weaker before middle after ending none so comes (inr (inl (file, is, came, rose))) =
    inr (inl (file, is, comes file came, rose_then (before file) (middle file) (after file) (none file) rose))
ends_weaker before middle after ending none so comes (inr (inr ran_out)) = inr (inr ran_out)

-- ---- by what the files give

module _ {T : Type 0} (meta : List ℕ) (reading : FilesTold → Reading T) (told : FilesTold) (before after : List ℕ → ℕ) (ending : Ending) where
  -- a run whose files weren't read ends by the fault, or because memory ran out
  pub not_loaded : (fault : LoadFault) → Gives {T = T} (reading told) (Err fault) → FailedWhereItCame {T = T} reading told (Err fault)
      → FailedAt {T = T} before after (Err fault) → IsNotLoaded meta fault ending ⊎ (ending ≡ no_memory) → EndsWithout meta reading told before after ending
  not_loaded fault gives came failed (inr ran_out) = inr (inr ran_out)
  not_loaded (load_faults.Read file) gives came failed (inl is) = inr (inl (file, is, came, failed))
  not_loaded load_faults.NoMemory gives came failed (inl is) = inr (inr is)
  not_loaded fault gives came failed (inl is) = inl (fault, gives, is)

  module _ (of_value : T → Ending → Type 0) where
    -- a run whose files were read ends with what is told of what was read, or because memory ran out
    pub over_read : (value : T) → reading told ≡ Reads value → of_value value ending ⊎ (ending ≡ no_memory) → EndsOver meta reading of_value told before after ending
    over_read value reads (inl tells) = inl (subst (λ (read : Reading T). OfReading meta of_value read ending) (sym reads) tells)
    over_read value reads (inr ran_out) = inr (inr ran_out)

    -- what ends without a value ends so, whatever is told of values
    pub over_none : EndsWithout meta reading told before after ending → EndsOver meta reading of_value told before after ending
    over_none (inl (fault, refuses, is)) = inl (subst (λ (read : Reading T). OfReading meta of_value read ending) (sym refuses) is)
    over_none (inr failed) = inr failed

    -- so does a run whose files weren't read
    pub over_fault : (fault : LoadFault) → Gives {T = T} (reading told) (Err fault) → FailedWhereItCame {T = T} reading told (Err fault)
        → FailedAt {T = T} before after (Err fault) → IsNotLoaded meta fault ending ⊎ (ending ≡ no_memory) → EndsOver meta reading of_value told before after ending
    over_fault fault gives came failed is = over_none (not_loaded fault gives came failed is)

-- ---- what outcomes say

-- The status of a job's outcome says whether out gets something: a status that writes nothing comes with no text, and no
-- outcome is a failed read or a failed writing.
abbrev pub Says : Status → List ℕ → Type 0
Says Clean out = Unit {0}
Says Faults out = Unit {0}
Says (ReadFault file) out = ⊥
Says WriteFault out = ⊥
Says other out = out ≡ []

-- the ending says so
abbrev pub SaysSo : Ending → Type 0
SaysSo ending = Says ending.status ending.out

-- what a reading gives says so where each value does
pub reading_says : {T : Type 0} (meta : List ℕ) (of_value : T → Ending → Type 0) (ending : Ending) → ((value : T) → of_value value ending → SaysSo ending)
    → (reading : Reading T) → OfReading meta of_value reading ending → SaysSo ending
reading_says meta of_value ending of (Reads value) ends = of value ends
reading_says meta of_value ending of (Refuses fault) is = subst SaysSo (sym is) refl
reading_says meta of_value ending of (Misses file) never = absurd never
reading_says meta of_value ending of (Unknown file) never = absurd never

-- ---- the run of the words

module _ (IsOutcome : FilesTold → Ending → Type 0) (ComesTo : FilesTold → List ℕ → Type 0) (files : FilesOfRun) (ending : Ending)
    (says : IsOutcome files.told_after ending → SaysSo ending)
    (ends : EndsOrFails (IsOutcome files.told_after ending) (ComesTo files.told_after) files.failed_before files.failed_after ending) where
  abbrev EndsSo : Type 0
  EndsSo = EndsOrFails (IsOutcome files.told_after ending) (ComesTo files.told_after) files.failed_before files.failed_after ending

  -- what the status says however the run ends: a failed read is of a file to which the job comes and whose count rose
  abbrev Tells : Status → List ℕ → Type 0
  Tells (ReadFault file) out = (ComesTo files.told_after file × Rose (files.failed_before file) (files.failed_after file)) × (out ≡ [])
  Tells status out = Says status out

  outcome_tells : (status : Status) (out : List ℕ) → Says status out → Tells status out
  outcome_tells (ReadFault file) out never = absurd never
  outcome_tells status out so = so

  tells : Tells ending.status ending.out
  tells = by ends where
    by : EndsSo → Tells ending.status ending.out
    by (inl outcome) = outcome_tells ending.status ending.out (says outcome)
    by (inr (inl (file, is, comes, rose))) = subst (λ (one : Ending). Tells one.status one.out) (sym is) ((comes, rose), refl)
    by (inr (inr is)) = subst (λ (one : Ending). Tells one.status one.out) (sym is) refl

  complete : ((file : List ℕ) → ComesTo files.told_after file → Rose (files.failed_before file) (files.failed_after file) → ⊥)
      → IsOutcome files.told_after ending ⊎ (ending ≡ no_memory)
  complete none = by ends where
    by : EndsSo → IsOutcome files.told_after ending ⊎ (ending ≡ no_memory)
    by (inl outcome) = inl outcome
    by (inr (inl (file, is, comes, rose))) = absurd (none file comes rose)
    by (inr (inr is)) = inr is

  cause : IsOutcome files.told_after ending ⊎ ((file : List ℕ) × (ending ≡ read_failed file)) ⊎ (ending ≡ no_memory)
  cause = by ends where
    by : EndsSo → IsOutcome files.told_after ending ⊎ ((file : List ℕ) × (ending ≡ read_failed file)) ⊎ (ending ≡ no_memory)
    by (inl outcome) = inl outcome
    by (inr (inl (file, is, comes, rose))) = inr (inl (file, is))
    by (inr (inr is)) = inr (inr is)

  silent : (status : Status) → Tells status ending.out → IsTrue (writes_nothing status) → ending.out ≡ []
  silent Clean so nothing = absurd (cc)
  silent Faults so nothing = absurd (cc)
  silent (ReadFault file) so nothing = so.1
  silent WriteFault so nothing = absurd so
  silent other so nothing = so

  -- How a job's run ends is how the run of its words ends; what was told from the start, and what else was opened, is
  -- handed on.
  pub as_asked : (TellsAll files.told_before → files.told_after ≡ files.told_before)
      → ((file : List ℕ) → (files.told_after file ≡ files.told_before file) ⊎ ComesTo files.told_after file) → Ends IsOutcome ComesTo files ending
  as_asked from_the_start opens = record {
    complete = complete;
    cause = cause;
    read_fault = λ file is. (subst (λ (status : Status). Tells status ending.out) is tells).0;
    no_write_fault = λ is. subst (λ (status : Status). Tells status ending.out) is tells;
    silent = silent ending.status tells;
    from_the_start = from_the_start;
    opens = opens;
  }
