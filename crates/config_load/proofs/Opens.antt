-- Which files are opened: those alone to which the reading comes.
use Rattle.std.proofs.Common.{◌≡◌, ℕ, ◌⊎◌, Bool, true, false, List, refl, sym, ap, ◌∙◌, inl, inr, nat_eq}
use lib.Pointwise.{pointwise}
use Rattle.dns_data.proofs.Names.{label_eq_decides}
use Rattle.io_edges.specs.Files.{FilesTold, SameElsewhere, StaysTold}
use Rattle.config_load.specs.Follows.{ByTold, StopsEarly, Follows, Reaches, OpensWhereItComes}
use Rattle.config_load.specs.Load.{OpensNoOther, ComesToFile}
use Rattle.config_load.specs.Reading.{Reading, Unknown, ◌>>=◌, file_octets, told_octets}
use Rattle.config_load.specs.declared.limits.Limits.{Limits}
use Rattle.config_load.proofs.Answered.{comes-reaches}
use Rattle.config_load.proofs.Follows.{TellsNoOther-stays, StopsEarly-stays, Reaches-then, Reaches-bind}

-- two readings of one file leave what is told of every other name
pub SameElsewhere-then : (name : List ℕ) (first between last : FilesTold) → SameElsewhere name first between → SameElsewhere name between last → SameElsewhere name first last
SameElsewhere-then name first between last a b other apart = b other apart ∙ a other apart

-- the reading of a file opens no file but this one
pub Opens-file : (limits : Limits) (before after : FilesTold) (name : List ℕ) → SameElsewhere name before after → OpensWhereItComes before after (file_octets limits name)
Opens-file limits before after name others file = by_test (pointwise nat_eq file name) refl where
  by_test : (same : Bool) → pointwise nat_eq file name ≡ same → (after file ≡ before file) ⊎ Reaches after (file_octets limits name) file
  by_test true same =
      let is : file ≡ name = (label_eq_decides file name).0 same in
      inr (λ other no_other gone. inl (ap (told_octets limits name) (ap other (sym is) ∙ gone) ∙ ap Unknown (sym is)))
  by_test false apart = inl (others file (λ is. let no : true ≡ false = sym ((label_eq_decides file name).1 is) ∙ apart in absurd cc))

module _ {A : Type 0} where
  -- a file that is reached by what was told is reached by what is told later
  Reaches-stays : (old new : FilesTold) (reading : ByTold A) (file : List ℕ) → StaysTold old new → Reaches old reading file → Reaches new reading file
  Reaches-stays old new reading file stays a other no_other gone = by_cases (a other (TellsNoOther-stays old new other stays no_other) gone) where
    by_cases : (reading other ≡ Unknown file) ⊎ StopsEarly old other (reading other) → (reading other ≡ Unknown file) ⊎ StopsEarly new other (reading other)
    by_cases (inl e) = inl e
    by_cases (inr early) = inr (StopsEarly-stays old new other (reading other) stays early)

  -- a reading opens files only where it comes, if it does so up to some step and from there on
  pub Opens-then : (before between after : FilesTold) (first second : ByTold A) → StaysTold between after → Follows between first second → OpensWhereItComes before between first → OpensWhereItComes between after second
      → OpensWhereItComes before after first
  Opens-then before between after first second stays so_far a b name = by_cases (a name) (b name) where
    by_cases : (between name ≡ before name) ⊎ Reaches between first name → (after name ≡ between name) ⊎ Reaches after second name → (after name ≡ before name) ⊎ Reaches after first name
    by_cases (inl kept) (inl same) = inl (same ∙ kept)
    by_cases (inr reached) (inl same) = inr (Reaches-stays between after first name stays reached)
    by_cases earlier (inr reached) = inr (Reaches-then between after first second name stays so_far reached)

module _ {A B : Type 0} where
  -- what is opened only where the first of two steps comes is opened only where the two come
  pub Opens-bind : (before after : FilesTold) (first : ByTold A) (next : FilesTold → A → Reading B) → OpensWhereItComes before after first → OpensWhereItComes before after (λ t. first t >>= next t)
  Opens-bind before after first next a name = by_cases (a name) where
    by_cases : (after name ≡ before name) ⊎ Reaches after first name → (after name ≡ before name) ⊎ Reaches after (λ t. first t >>= next t) name
    by_cases (inl same) = inl same
    by_cases (inr reached) = inr (Reaches-bind after first next name reached)

module _ {A : Type 0} where
  -- a reading that opens a file only if what is told now takes it there opens no other file
  pub OpensNoOther-answers : (reading : ByTold A) (before after : FilesTold) → OpensWhereItComes before after reading → OpensNoOther reading before after
  OpensNoOther-answers reading before after a name = by_cases (a name) where
    by_cases : (after name ≡ before name) ⊎ Reaches after reading name → (after name ≡ before name) ⊎ ComesToFile reading after name
    by_cases (inl same) = inl same
    by_cases (inr reached) = inr (comes-reaches after reading name reached)
