-- How far a reading has come: step by step, and what that says of what is told at the end.
use Rattle.std.proofs.Common.{◌≡◌, ℕ, ◌<◌, ◌≤◌, ◌⊎◌, List, length, Result, Ok, Err, IsErrAnd, refl, subst, sym, ap, ◌∙◌, inl, inr, arith}
use Rattle.std.proofs.lemmas.Bool.Decides.{nat_tests}
use Rattle.io_edges.specs.Files.{FilesTold, Told, Untold, NotHeld, Holds, IsToldAnd, StaysTold}
use Rattle.config_load.specs.Faults.{IsReadOf, IsTooLongOf}
use Rattle.config_load.specs.Follows.{ByTold, TellsNoOther, StopsEarly, Follows, Reaches, Answers}
use Rattle.config_load.specs.Limits.{most_octets}
use Rattle.config_load.specs.Reading.{Reading, Reads, Refuses, Unknown, ◌>>=◌, file_octets, told_octets}
use Rattle.config_load.specs.declared.fault.LoadFault.{LoadFault}
use Rattle.config_load.specs.declared.fault.LoadFault.TheVariants.{Read, TooLong, Meta, Text, Rule, ZoneTwice, NoMemory}
use Rattle.config_load.specs.declared.limits.Limits.{Limits}

-- what is told tells no other than itself
pub TellsNoOther-self : (told : FilesTold) → TellsNoOther told told
TellsNoOther-self told name = inr (inl refl)

-- what tells no other than what is told later tells no other than what was told
pub TellsNoOther-stays : (old new other : FilesTold) → StaysTold old new → TellsNoOther new other → TellsNoOther old other
TellsNoOther-stays old new other stays no_other name = at_name (stays name) (no_other name) where
  at_name : (old name ≡ Untold) ⊎ (new name ≡ old name) → (new name ≡ Untold) ⊎ ((other name ≡ new name) ⊎ (other name ≡ Untold)) → (old name ≡ Untold) ⊎ ((other name ≡ old name) ⊎ (other name ≡ Untold))
  at_name (inl untold) case = inl untold
  at_name (inr same) (inl untold) = inl (sym same ∙ untold)
  at_name (inr same) (inr (inl is)) = inr (inl (is ∙ same))
  at_name (inr same) (inr (inr untold)) = inr (inr untold)

module _ {A : Type 0} where
  -- a reading that stops early, by what was told, does so by what is told later
  pub StopsEarly-stays : (old new other : FilesTold) (reading : Reading A) → StaysTold old new → StopsEarly old other reading → StopsEarly new other reading
  StopsEarly-stays old new other reading stays (name, is, untold, told) = (name, is, untold, λ gone. told (before (stays name) gone)) where
    before : (old name ≡ Untold) ⊎ (new name ≡ old name) → new name ≡ Untold → old name ≡ Untold
    before (inl none) gone = none
    before (inr same) gone = sym same ∙ gone

  -- what is told takes a reading to each reading that is the same whatever is told
  pub Follows-same : (told : FilesTold) (first second : ByTold A) → ((other : FilesTold) → first other ≡ second other) → Follows told first second
  Follows-same told first second same other no_other = inl (same other)

  -- if what is told takes a first reading to a second, and that one to a third, it takes the first to the third
  pub Follows-then : (old new : FilesTold) (first second third : ByTold A) → StaysTold old new → Follows old first second → Follows new second third → Follows new first third
  Follows-then old new first second third stays a b other no_other = by_cases (a other (TellsNoOther-stays old new other stays no_other)) (b other no_other) where
    by_cases : (first other ≡ second other) ⊎ StopsEarly old other (first other) → (second other ≡ third other) ⊎ StopsEarly new other (second other) → (first other ≡ third other) ⊎ StopsEarly new other (first other)
    by_cases (inl e) (inl f) = inl (e ∙ f)
    by_cases (inl e) (inr (name, is, untold, told)) = inr (name, e ∙ is, untold, told)
    by_cases (inr stops) case = inr (StopsEarly-stays old new other (first other) stops_early stops) where
      stops_early : StaysTold old new
      stops_early = stays

  -- a file that a later part of a reading reaches is reached by the whole reading
  pub Reaches-then : (old new : FilesTold) (first second : ByTold A) (file : List ℕ) → StaysTold old new → Follows old first second → Reaches new second file → Reaches new first file
  Reaches-then old new first second file stays a b other no_other gone = by_cases (a other (TellsNoOther-stays old new other stays no_other)) (b other no_other gone) where
    by_cases : (first other ≡ second other) ⊎ StopsEarly old other (first other) → (second other ≡ Unknown file) ⊎ StopsEarly new other (second other) → (first other ≡ Unknown file) ⊎ StopsEarly new other (first other)
    by_cases (inl e) (inl f) = inl (e ∙ f)
    by_cases (inl e) (inr (name, is, untold, told)) = inr (name, e ∙ is, untold, told)
    by_cases (inr stops) case = inr (StopsEarly-stays old new other (first other) stays stops)

  -- what is answered behind a part of the way is answered
  pub Answers-then : (old new : FilesTold) (first second : ByTold A) (result : Result A LoadFault) → StaysTold old new → Follows old first second → Answers new second result → Answers new first result
  Answers-then old new first second (Ok value) stays a b = Follows-then old new first second (λ _. Reads value) stays a b
  Answers-then old new first second (Err (Read file)) stays a b = Reaches-then old new first second file stays a b
  Answers-then old new first second (Err NoMemory) stays a b = tt
  Answers-then old new first second (Err (TooLong file)) stays a b = Follows-then old new first second (λ _. Refuses (TooLong file)) stays a b
  Answers-then old new first second (Err (Meta fault)) stays a b = Follows-then old new first second (λ _. Refuses (Meta fault)) stays a b
  Answers-then old new first second (Err (Text file line cause)) stays a b = Follows-then old new first second (λ _. Refuses (Text file line cause)) stays a b
  Answers-then old new first second (Err (Rule file line cause)) stays a b = Follows-then old new first second (λ _. Refuses (Rule file line cause)) stays a b
  Answers-then old new first second (Err (ZoneTwice row)) stays a b = Follows-then old new first second (λ _. Refuses (ZoneTwice row)) stays a b

module _ {A B : Type 0} where
  StopsEarly-bind : (told other : FilesTold) (reading : Reading A) (next : A → Reading B) → StopsEarly told other reading → StopsEarly told other (reading >>= next)
  StopsEarly-bind told other reading next (name, is, untold, some) = (name, ap (λ r. r >>= next) is, untold, some)

  -- what takes a reading to another takes it there with the same next step behind both
  pub Follows-bind : (told : FilesTold) (first second : ByTold A) (next : FilesTold → A → Reading B) → Follows told first second → Follows told (λ t. first t >>= next t) (λ t. second t >>= next t)
  Follows-bind told first second next a other no_other = by_cases (a other no_other) where
    by_cases : (first other ≡ second other) ⊎ StopsEarly told other (first other) → (first other >>= next other ≡ second other >>= next other) ⊎ StopsEarly told other (first other >>= next other)
    by_cases (inl e) = inl (ap (λ r. r >>= next other) e)
    by_cases (inr stops) = inr (StopsEarly-bind told other (first other) (next other) stops)

  -- a file to which the first step of a reading comes is one to which the reading comes
  pub Reaches-bind : (told : FilesTold) (first : ByTold A) (next : FilesTold → A → Reading B) (file : List ℕ) → Reaches told first file → Reaches told (λ t. first t >>= next t) file
  Reaches-bind told first next file a other no_other gone = by_cases (a other no_other gone) where
    by_cases : (first other ≡ Unknown file) ⊎ StopsEarly told other (first other) → (first other >>= next other ≡ Unknown file) ⊎ StopsEarly told other (first other >>= next other)
    by_cases (inl e) = inl (ap (λ r. r >>= next other) e)
    by_cases (inr stops) = inr (StopsEarly-bind told other (first other) (next other) stops)

  -- a fault of the first step is that of the reading
  pub Answers-bind : (told : FilesTold) (first : ByTold A) (next : FilesTold → A → Reading B) (fault : LoadFault) → (let answer : Result A LoadFault = Err fault in Answers told first answer) → (let answer : Result B LoadFault = Err fault in Answers told (λ t. first t >>= next t) answer)
  Answers-bind told first next (Read file) a = Reaches-bind told first next file a
  Answers-bind told first next NoMemory a = tt
  Answers-bind told first next (TooLong file) a = Follows-bind told first (λ _. Refuses (TooLong file)) next a
  Answers-bind told first next (Meta fault) a = Follows-bind told first (λ _. Refuses (Meta fault)) next a
  Answers-bind told first next (Text file line cause) a = Follows-bind told first (λ _. Refuses (Text file line cause)) next a
  Answers-bind told first next (Rule file line cause) a = Follows-bind told first (λ _. Refuses (Rule file line cause)) next a
  Answers-bind told first next (ZoneTwice row) a = Follows-bind told first (λ _. Refuses (ZoneTwice row)) next a

module _ {A B : Type 0} where
  -- a fault of the first step that is passed on answers both steps
  pub Answers-passed : (told : FilesTold) (first : ByTold A) (next : FilesTold → A → Reading B) (fault : LoadFault) (result : Result B LoadFault) → IsErrAnd result (λ passed. passed ≡ fault) → (let answer : Result A LoadFault = Err fault in Answers told first answer) → Answers told (λ t. first t >>= next t) result
  Answers-passed told first next fault (Ok value) is a = absurd is
  Answers-passed told first next fault (Err passed) is a =
      subst (λ f. let answer : Result B LoadFault = Err f in Answers told (λ t. first t >>= next t) answer) (sym is) (Answers-bind told first next fault a)

-- a file of which octets are told
follows_holds : (limits : Limits) (told : FilesTold) (name octets : List ℕ) (reading : Reading (List ℕ)) → told name ≡ Holds octets → told_octets limits name (Holds octets) ≡ reading → Follows told (file_octets limits name) (λ _. reading)
follows_holds limits told name octets reading here is other no_other = by_cases (no_other name) where
  by_cases : (told name ≡ Untold) ⊎ ((other name ≡ told name) ⊎ (other name ≡ Untold)) → (file_octets limits name other ≡ reading) ⊎ StopsEarly told other (file_octets limits name other)
  by_cases (inl untold) = let no : Holds octets ≡ Untold = sym here ∙ untold in absurd cc
  by_cases (inr (inl same)) = inl (ap (told_octets limits name) (same ∙ here) ∙ is)
  by_cases (inr (inr untold)) = inr (name, ap (told_octets limits name) untold, untold, λ gone. let no : Holds octets ≡ Untold = sym here ∙ gone in absurd cc)

-- what is told of a file that was read to its end takes its reading to the octets
pub Follows-whole : (limits : Limits) (told : FilesTold) (name octets : List ℕ) → told name ≡ Holds octets → length octets ≤ most_octets limits → Follows told (file_octets limits name) (λ _. Reads octets)
Follows-whole limits told name octets here short = follows_holds limits told name octets (Reads octets) here (grind (arith, nat_tests))

-- what is told of a file that is too long takes its reading to that fault
pub Follows-too_long : (limits : Limits) (told : FilesTold) (name : List ℕ) → IsToldAnd (told name) (λ octets. most_octets limits < length octets) → Follows told (file_octets limits name) (λ _. Refuses (TooLong name))
Follows-too_long limits told name long = by_told (told name) refl long where
  by_told : (is : Told) → told name ≡ is → IsToldAnd is (λ octets. most_octets limits < length octets) → Follows told (file_octets limits name) (λ _. Refuses (TooLong name))
  by_told Untold here long = absurd long
  by_told NotHeld here long = absurd long
  by_told (Holds octets) here long = follows_holds limits told name octets (Refuses (TooLong name)) here (grind (arith, nat_tests))

-- the fault of a file that is too long
pub Answers-too_long : (limits : Limits) (told : FilesTold) (name : List ℕ) (fault : LoadFault) → IsTooLongOf name fault → IsToldAnd (told name) (λ octets. most_octets limits < length octets) → (let answer : Result (List ℕ) LoadFault = Err fault in Answers told (file_octets limits name) answer)
Answers-too_long limits told name NoMemory is long = tt
Answers-too_long limits told name (TooLong file) is long = subst (λ n. Follows told (file_octets limits name) (λ _. Refuses (TooLong n))) (sym is) (Follows-too_long limits told name long)
Answers-too_long limits told name (Read file) is long = absurd is
Answers-too_long limits told name (Meta fault) is long = absurd is
Answers-too_long limits told name (Text file line cause) is long = absurd is
Answers-too_long limits told name (Rule file line cause) is long = absurd is
Answers-too_long limits told name (ZoneTwice row) is long = absurd is

-- the fault of a read that failed
pub Answers-read_fault : (limits : Limits) (told : FilesTold) (name : List ℕ) (fault : LoadFault) → IsReadOf name fault → (let answer : Result (List ℕ) LoadFault = Err fault in Answers told (file_octets limits name) answer)
Answers-read_fault limits told name NoMemory is = tt
Answers-read_fault limits told name (Read file) is =
    subst (λ n. Reaches told (file_octets limits name) n) (sym is) (λ other no_other gone. inl (ap (told_octets limits name) gone))
Answers-read_fault limits told name (TooLong file) is = absurd is
Answers-read_fault limits told name (Meta fault) is = absurd is
Answers-read_fault limits told name (Text file line cause) is = absurd is
Answers-read_fault limits told name (Rule file line cause) is = absurd is
Answers-read_fault limits told name (ZoneTwice row) is = absurd is
