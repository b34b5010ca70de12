-- What an answer to a reading says of what is told after the call.
use Rattle.std.proofs.Common.{◌≡◌, ◌≢◌, ℕ, ◌⊎◌, Bool, true, false, List, Result, Ok, Err, if◌then◌else◌, refl, subst, sym, ap, ◌∙◌, inl, inr, nat_eq}
use lib.Pointwise.{pointwise}
use Rattle.dns_data.proofs.Names.{label_eq_decides}
use Rattle.io_edges.specs.Files.{FilesTold, Untold}
use Rattle.config_load.specs.Faults.{FailedAt}
use Rattle.config_load.specs.Follows.{ByTold, TellsNoOther, StopsEarly, Follows, Reaches, Answers}
use Rattle.config_load.specs.Load.{without, ComesToFile, NoFailureIn, Gives, FailedWhereItCame, IsReadFault, IsAnswerTo}
use Rattle.config_load.specs.Reading.{Reading, Reads, Refuses, Misses, Unknown}
use Rattle.config_load.specs.declared.fault.LoadFault.{LoadFault}
use Rattle.config_load.specs.declared.fault.LoadFault.TheVariants.{Read, TooLong, Meta, Text, Rule, ZoneTwice, NoMemory}
use Rattle.config_load.proofs.Follows.{TellsNoOther-self}

module _ {A : Type 0} where
  at_end : (told : FilesTold) (first : ByTold A) (last : Reading A) → Follows told first (λ _. last) → first told ≡ last
  at_end told first last follows = by_cases (follows told (TellsNoOther-self told)) where
    by_cases : (first told ≡ last) ⊎ StopsEarly told told (first told) → first told ≡ last
    by_cases (inl e) = e
    by_cases (inr (name, is, untold, some)) = absurd (some untold)

  -- an answer is what the reading gives of what is told
  pub Gives-answers : (told : FilesTold) (reading : ByTold A) (result : Result A LoadFault) → Answers told reading result → Gives (reading told) result
  Gives-answers told reading (Ok value) a = at_end told reading (Reads value) a
  Gives-answers told reading (Err (Read file)) a = tt
  Gives-answers told reading (Err NoMemory) a = tt
  Gives-answers told reading (Err (TooLong file)) a = at_end told reading (Refuses (TooLong file)) a
  Gives-answers told reading (Err (Meta fault)) a = at_end told reading (Refuses (Meta fault)) a
  Gives-answers told reading (Err (Text file line cause)) a = at_end told reading (Refuses (Text file line cause)) a
  Gives-answers told reading (Err (Rule file line cause)) a = at_end told reading (Refuses (Rule file line cause)) a
  Gives-answers told reading (Err (ZoneTwice row)) a = at_end told reading (Refuses (ZoneTwice row)) a

  refuses_misses : (fault : LoadFault) (file : List ℕ) → (let refused : Reading A = Refuses fault in refused ≡ Misses file) → ⊥
  refuses_misses fault file e = cc

  refuses_unknown : (fault : LoadFault) (file : List ℕ) → (let refused : Reading A = Refuses fault in refused ≡ Unknown file) → ⊥
  refuses_unknown fault file e = cc

  -- a file that isn't held is never read
  pub IsReadFault-misses : (reading : Reading A) (file : List ℕ) (result : Result A LoadFault) → reading ≡ Misses file → Gives reading result → IsReadFault result
  IsReadFault-misses reading file (Ok value) is a = let no : Reads value ≡ Misses file = sym a ∙ is in absurd cc
  IsReadFault-misses reading file (Err (Read name)) is a = tt
  IsReadFault-misses reading file (Err NoMemory) is a = tt
  IsReadFault-misses reading file (Err (TooLong name)) is a = absurd (refuses_misses (TooLong name) file (sym a ∙ is))
  IsReadFault-misses reading file (Err (Meta fault)) is a = absurd (refuses_misses (Meta fault) file (sym a ∙ is))
  IsReadFault-misses reading file (Err (Text name line cause)) is a = absurd (refuses_misses (Text name line cause) file (sym a ∙ is))
  IsReadFault-misses reading file (Err (Rule name line cause)) is a = absurd (refuses_misses (Rule name line cause) file (sym a ∙ is))
  IsReadFault-misses reading file (Err (ZoneTwice row)) is a = absurd (refuses_misses (ZoneTwice row) file (sym a ∙ is))

  -- a file of which nothing is told is never read
  pub IsReadFault-unknown : (reading : Reading A) (file : List ℕ) (result : Result A LoadFault) → reading ≡ Unknown file → Gives reading result → IsReadFault result
  IsReadFault-unknown reading file (Ok value) is a = let no : Reads value ≡ Unknown file = sym a ∙ is in absurd cc
  IsReadFault-unknown reading file (Err (Read name)) is a = tt
  IsReadFault-unknown reading file (Err NoMemory) is a = tt
  IsReadFault-unknown reading file (Err (TooLong name)) is a = absurd (refuses_unknown (TooLong name) file (sym a ∙ is))
  IsReadFault-unknown reading file (Err (Meta fault)) is a = absurd (refuses_unknown (Meta fault) file (sym a ∙ is))
  IsReadFault-unknown reading file (Err (Text name line cause)) is a = absurd (refuses_unknown (Text name line cause) file (sym a ∙ is))
  IsReadFault-unknown reading file (Err (Rule name line cause)) is a = absurd (refuses_unknown (Rule name line cause) file (sym a ∙ is))
  IsReadFault-unknown reading file (Err (ZoneTwice row)) is a = absurd (refuses_unknown (ZoneTwice row) file (sym a ∙ is))

-- without a file nothing else is told
TellsNoOther-without : (told : FilesTold) (file : List ℕ) → TellsNoOther told (without file told)
TellsNoOther-without told file name =
    elim (pointwise nat_eq name file) as (λ b. (told name ≡ Untold) ⊎ (((if b then Untold else told name) ≡ told name) ⊎ ((if b then Untold else told name) ≡ Untold)))
    [ true ↦ inr (inr refl) | false ↦ inr (inl refl) ]

-- without a file nothing of it is told
pub without-here : (told : FilesTold) (file : List ℕ) → without file told file ≡ Untold
without-here told file = ap (λ b. if b then Untold else told file) ((label_eq_decides file file).1 refl)

-- a file of which something is told, but nothing without this one, is this one
pub without-only : (told : FilesTold) (file name : List ℕ) → without file told name ≡ Untold → told name ≢ Untold → name ≡ file
without-only told file name untold some = by_test (pointwise nat_eq name file) refl untold where
  by_test : (same : Bool) → pointwise nat_eq name file ≡ same → (if same then Untold else told name) ≡ Untold → name ≡ file
  by_test true same gone = (label_eq_decides name file).0 same
  by_test false apart gone = absurd (some gone)

module _ {A : Type 0} where
  -- a reading comes to each file to which what is told takes it
  pub comes-reaches : (told : FilesTold) (reading : ByTold A) (file : List ℕ) → Reaches told reading file → ComesToFile reading told file
  comes-reaches told reading file a = by_cases (a (without file told) (TellsNoOther-without told file) (without-here told file)) where
    by_cases : (reading (without file told) ≡ Unknown file) ⊎ StopsEarly told (without file told) (reading (without file told)) → ComesToFile reading told file
    by_cases (inl e) = e
    by_cases (inr (name, is, untold, some)) = is ∙ ap Unknown (without-only told file name untold some)

  -- a reading whose answer is a failed read failed at a file to which it comes
  pub FailedWhereItCame-answers : (told : FilesTold) (reading : ByTold A) (result : Result A LoadFault) → Answers told reading result → FailedWhereItCame reading told result
  FailedWhereItCame-answers told reading (Err (Read file)) a = comes-reaches told reading file a
  FailedWhereItCame-answers told reading (Ok value) a = tt
  FailedWhereItCame-answers told reading (Err NoMemory) a = tt
  FailedWhereItCame-answers told reading (Err (TooLong file)) a = tt
  FailedWhereItCame-answers told reading (Err (Meta fault)) a = tt
  FailedWhereItCame-answers told reading (Err (Text file line cause)) a = tt
  FailedWhereItCame-answers told reading (Err (Rule file line cause)) a = tt
  FailedWhereItCame-answers told reading (Err (ZoneTwice row)) a = tt

-- where no read failed the answer is the whole of what the reading gives
pub IsAnswerTo-answers : {A : Type 0} (told : FilesTold) (whole : ByTold A) (before after : List ℕ → ℕ) (reading : Reading A) (result : Result A LoadFault) → Gives reading result → FailedAt before after result → FailedWhereItCame whole told result → NoFailureIn whole told before after → IsAnswerTo reading result
IsAnswerTo-answers told whole before after reading (Ok value) gives rose came none = subst (λ r. IsAnswerTo r (Ok value)) (sym gives) (inl refl)
IsAnswerTo-answers told whole before after reading (Err (Read file)) gives rose came none = absurd (none file came rose)
IsAnswerTo-answers told whole before after (Reads value) (Err NoMemory) gives rose came none = inr refl
IsAnswerTo-answers told whole before after (Refuses fault) (Err NoMemory) gives rose came none = inr refl
IsAnswerTo-answers told whole before after (Misses file) (Err NoMemory) gives rose came none = refl
IsAnswerTo-answers told whole before after (Unknown file) (Err NoMemory) gives rose came none = refl
IsAnswerTo-answers told whole before after reading (Err (TooLong file)) gives rose came none = subst (λ r. IsAnswerTo r (Err (TooLong file))) (sym gives) (inl refl)
IsAnswerTo-answers told whole before after reading (Err (Meta fault)) gives rose came none = subst (λ r. IsAnswerTo r (Err (Meta fault))) (sym gives) (inl refl)
IsAnswerTo-answers told whole before after reading (Err (Text file line cause)) gives rose came none = subst (λ r. IsAnswerTo r (Err (Text file line cause))) (sym gives) (inl refl)
IsAnswerTo-answers told whole before after reading (Err (Rule file line cause)) gives rose came none = subst (λ r. IsAnswerTo r (Err (Rule file line cause))) (sym gives) (inl refl)
IsAnswerTo-answers told whole before after reading (Err (ZoneTwice row)) gives rose came none = subst (λ r. IsAnswerTo r (Err (ZoneTwice row))) (sym gives) (inl refl)
