-- What is answered to the reading of one file.
use Rattle.std.proofs.Common.{◌≡◌, ◌≢◌, ◌∙◌, ℕ, ◌⊎◌, Bool, true, false, List, Result, Ok, Err, if◌then◌else◌, sym, ap, subst, inl, inr}
use Rattle.std.specs.Prelude.{nat_le, length}
use Rattle.io_edges.specs.Counts.{NoneFell}
use Rattle.io_edges.specs.Files.{FilesTold, Told, Untold, NotHeld, Holds, StaysTold}
use Rattle.config_load.specs.Faults.{FailedAt}
use Rattle.config_load.specs.Follows.{StopsEarly, Follows, Answers, OpensWhereItComes, Reaches}
use Rattle.config_load.specs.Limits.{most_octets}
use Rattle.config_load.specs.Load.{ComesToFile, FailedWhereItCame, Gives, OpensNoOther, without}
use Rattle.config_load.specs.Reading.{Reading, Reads, Refuses, Unknown, file_octets, told_octets}
use Rattle.config_load.specs.Sources.{HasAnswered}
use Rattle.config_load.specs.declared.fault.LoadFault.{LoadFault}
use Rattle.config_load.specs.declared.fault.LoadFault.TheVariants.{Read, TooLong, Meta, Text, Rule, ZoneTwice, NoMemory}
use Rattle.config_load.specs.declared.limits.Limits.{Limits}
use Rattle.config_load.proofs.Follows.{Answers-read_fault}

module _ (limits : Limits) (name : List ℕ) where
  -- the reading of a file comes to no other file
  comes_here : (told : FilesTold) (file : List ℕ) → ComesToFile (file_octets limits name) told file → file ≡ name
  comes_here told file comes = by (without file told name) comes where
    long : (octets : List ℕ) (b : Bool) → (if b then Reads octets else Refuses (TooLong name)) ≡ Unknown file → file ≡ name
    long octets true e = absurd (cc)
    long octets false e = absurd (cc)

    by : (here : Told) → told_octets limits name here ≡ Unknown file → file ≡ name
    by Untold e = (let same : name ≡ file = cc in sym same)
    by NotHeld e = absurd (cc)
    by (Holds octets) e = long octets (nat_le (length octets) (most_octets limits)) e

  module _ (told : FilesTold) where
    -- what is told of a file takes its reading to what it gives
    known : told name ≢ Untold → Follows told (file_octets limits name) (λ _. file_octets limits name told)
    known some other no_other = by (no_other name) where
      by : (told name ≡ Untold) ⊎ ((other name ≡ told name) ⊎ (other name ≡ Untold))
          → (file_octets limits name other ≡ file_octets limits name told) ⊎ StopsEarly told other (file_octets limits name other)
      by (inl untold) = absurd (some untold)
      by (inr (inl same)) = inl (ap (told_octets limits name) same)
      by (inr (inr untold)) = inr (name, ap (told_octets limits name) untold, untold, some)

    gives_value : (octets : List ℕ) → file_octets limits name told ≡ Reads octets → Follows told (file_octets limits name) (λ _. Reads octets)
    gives_value octets gives =
        subst (λ (reading : Reading (List ℕ)). Follows told (file_octets limits name) (λ _. reading)) gives
        (known (λ untold. (let no : Unknown name ≡ Reads octets = sym (ap (told_octets limits name) untold) ∙ gives in cc)))

    gives_refusal : (fault : LoadFault) → file_octets limits name told ≡ Refuses fault → Follows told (file_octets limits name) (λ _. Refuses fault)
    gives_refusal fault gives =
        subst (λ (reading : Reading (List ℕ)). Follows told (file_octets limits name) (λ _. reading)) gives
        (known (λ untold. (let no : Unknown name ≡ Refuses fault = sym (ap (told_octets limits name) untold) ∙ gives in cc)))

    answers : (result : Result (List ℕ) LoadFault) → Gives (file_octets limits name told) result → FailedWhereItCame (file_octets limits name) told result
        → Answers told (file_octets limits name) result
    answers (Ok octets) gives came = gives_value octets gives
    answers (Err (Read file)) gives came = Answers-read_fault limits told name (Read file) (comes_here told file came)
    answers (Err NoMemory) gives came = tt
    answers (Err (TooLong file)) gives came = gives_refusal (TooLong file) gives
    answers (Err (Meta fault)) gives came = gives_refusal (Meta fault) gives
    answers (Err (Text file line cause)) gives came = gives_refusal (Text file line cause) gives
    answers (Err (Rule file line cause)) gives came = gives_refusal (Rule file line cause) gives
    answers (Err (ZoneTwice row)) gives came = gives_refusal (ZoneTwice row) gives

  opens_here : (before after : FilesTold) → OpensNoOther (file_octets limits name) before after → OpensWhereItComes before after (file_octets limits name)
  opens_here before after opens file = by (opens file) where
    by : (after file ≡ before file) ⊎ ComesToFile (file_octets limits name) after file → (after file ≡ before file) ⊎ Reaches after (file_octets limits name) file
    by (inl same) = inl same
    by (inr comes) = inr (Answers-read_fault limits after name (Read file) (comes_here after file comes))

  -- what a call that reads one file answers is the answer to its reading
  pub file_answered : (before after : FilesTold) (counts counts' : List ℕ → ℕ) (result : Result (List ℕ) LoadFault)
      → Gives (file_octets limits name after) result → FailedWhereItCame (file_octets limits name) after result → FailedAt counts counts' result
      → StaysTold before after → OpensNoOther (file_octets limits name) before after → NoneFell counts counts'
      → HasAnswered before after counts counts' (file_octets limits name) result
  file_answered before after counts counts' result gives came failed stays opens never_fall = record {
    answers = answers after result gives came;
    cause = failed;
    source = record { stays = stays; opens = opens_here before after opens; never_fall = never_fall };
  }
