-- What calls do to a source, one after the other, and the answers to readings that come of it.
use Rattle.std.proofs.Common.{◌≡◌, ℕ, ◌≤◌, ◌<◌, List, [], length, Result, Ok, Err, IsErrAnd, refl, subst, sym, inl, inr, arith}
use Rattle.std.specs.Result.{IfErr}
use Rattle.dns_data.proofs.Answers.{if_err_answered, if_err_told}
use Rattle.dns_data.specs.Answers.{AnswersOr, with_fault}
use Rattle.io_edges.proofs.Loops.{NoneFell-then}
use Rattle.io_edges.proofs.Told.{StaysTold-then}
use Rattle.io_edges.specs.Counts.{Rose, NoneFell}
use Rattle.io_edges.specs.Files.{FilesTold, Told, Untold, NotHeld, Holds, IsToldAnd, first_told}
use Rattle.config_load.specs.Faults.{FailedAt, IsReadOf, IsTooLongOf}
use Rattle.config_load.specs.Fed.{FailsToRead}
use Rattle.config_load.specs.Follows.{ByTold, Follows, Answers}
use Rattle.config_load.specs.Limits.{most_octets}
use Rattle.config_load.specs.Reading.{Reading, Reads, ◌>>=◌, unless_refused, file_octets}
use Rattle.config_load.specs.Sources.{ReadsOnly, ReadsFor, HasAnswered}
use Rattle.config_load.specs.declared.fault.LoadFault.{LoadFault}
use Rattle.config_load.specs.declared.fault.LoadFault.TheVariants.{Read, TooLong, Meta, Text, Rule, ZoneTwice, NoMemory}
use Rattle.config_load.specs.declared.limits.Limits.{Limits}
use Rattle.config_load.proofs.Follows.{Follows-whole, Follows-bind, Answers-then, Answers-passed, Answers-read_fault, Answers-too_long}
use Rattle.config_load.proofs.Opens.{SameElsewhere-then, Opens-file, Opens-then, Opens-bind}
use Rattle.config_load.proofs.Steps.{IsNoRead, Answers-free, Answers-told, Answers-wanting, FailedAt-wanting}

-- no octet is told of a file of which none was read
pub first_told-none : (told : Told) → first_told told 0 ≡ []
first_told-none Untold = refl
first_told-none NotHeld = refl
first_told-none (Holds octets) = refl

-- a file of which nothing was read is the only file that was read
pub ReadsOnly-none : (name : List ℕ) (told : FilesTold) (counts : List ℕ → ℕ) → ReadsOnly name told told counts counts
ReadsOnly-none name told counts = record { stays = λ _. inr refl; others = λ _ _. refl; never_fall = λ _. omega arith }

-- two readings of one file, one after the other, read that file alone
pub ReadsOnly-then : {name : List ℕ} {first between last : FilesTold} {counts counts' counts'' : List ℕ → ℕ} → ReadsOnly name first between counts counts' → ReadsOnly name between last counts' counts'' → ReadsOnly name first last counts counts''
ReadsOnly-then {name} {first} {between} {last} {counts} {counts'} {counts''} a b = record {
  stays = StaysTold-then first between last a.stays b.stays;
  others = SameElsewhere-then name first between last a.others b.others;
  never_fall = NoneFell-then counts counts' counts'' a.never_fall b.never_fall;
}

-- a count that didn't fall and then rose has risen
pub rose_then : (before between after : ℕ) → before ≤ between → Rose between after → Rose before after
rose_then before between after below (inl less) = inl (omega arith)
rose_then before between after below (inr last) = inr last

module _ {A : Type 0} where
  -- a failed read stays one in the counts from before, if none fell until then
  pub FailedAt-then : (counts counts' counts'' : List ℕ → ℕ) (result : Result A LoadFault) → NoneFell counts counts' → FailedAt counts' counts'' result → FailedAt counts counts'' result
  FailedAt-then counts counts' counts'' (Ok value) none failed = tt
  FailedAt-then counts counts' counts'' (Err (Read file)) none failed = rose_then (counts file) (counts' file) (counts'' file) (none file) failed
  FailedAt-then counts counts' counts'' (Err (TooLong file)) none failed = tt
  FailedAt-then counts counts' counts'' (Err (Meta fault)) none failed = tt
  FailedAt-then counts counts' counts'' (Err (Text file line cause)) none failed = tt
  FailedAt-then counts counts' counts'' (Err (Rule file line cause)) none failed = tt
  FailedAt-then counts counts' counts'' (Err (ZoneTwice row)) none failed = tt
  FailedAt-then counts counts' counts'' (Err NoMemory) none failed = tt

  -- an error that isn't a failed read needs no failure in a count
  pub FailedAt-no_read : (counts counts' : List ℕ → ℕ) (result : Result A LoadFault) → IfErr result IsNoRead → FailedAt counts counts' result
  FailedAt-no_read counts counts' (Ok value) never = tt
  FailedAt-no_read counts counts' (Err (Read file)) never = absurd never
  FailedAt-no_read counts counts' (Err (TooLong file)) never = tt
  FailedAt-no_read counts counts' (Err (Meta fault)) never = tt
  FailedAt-no_read counts counts' (Err (Text file line cause)) never = tt
  FailedAt-no_read counts counts' (Err (Rule file line cause)) never = tt
  FailedAt-no_read counts counts' (Err (ZoneTwice row)) never = tt
  FailedAt-no_read counts counts' (Err NoMemory) never = tt

module _ (A : Type 0) where
  -- the fault of a read that failed has its cause in the count of that file
  pub FailedAt-read : (counts counts' : List ℕ → ℕ) (name : List ℕ) (fault : LoadFault) → IsReadOf name fault → Rose (counts name) (counts' name) → (let answer : Result A LoadFault = Err fault in FailedAt counts counts' answer)
  FailedAt-read counts counts' name (Read file) is rose = subst (λ n. Rose (counts n) (counts' n)) (sym is) rose
  FailedAt-read counts counts' name NoMemory is rose = tt
  FailedAt-read counts counts' name (TooLong file) is rose = absurd is
  FailedAt-read counts counts' name (Meta fault) is rose = absurd is
  FailedAt-read counts counts' name (Text file line cause) is rose = absurd is
  FailedAt-read counts counts' name (Rule file line cause) is rose = absurd is
  FailedAt-read counts counts' name (ZoneTwice row) is rose = absurd is

  -- a file that is too long failed at no read
  pub FailedAt-too_long : (counts counts' : List ℕ → ℕ) (name : List ℕ) (fault : LoadFault) → IsTooLongOf name fault → (let answer : Result A LoadFault = Err fault in FailedAt counts counts' answer)
  FailedAt-too_long counts counts' name (TooLong file) is = tt
  FailedAt-too_long counts counts' name NoMemory is = tt
  FailedAt-too_long counts counts' name (Read file) is = absurd is
  FailedAt-too_long counts counts' name (Meta fault) is = absurd is
  FailedAt-too_long counts counts' name (Text file line cause) is = absurd is
  FailedAt-too_long counts counts' name (Rule file line cause) is = absurd is
  FailedAt-too_long counts counts' name (ZoneTwice row) is = absurd is

module _ (A : Type 0) {B : Type 0} where
  -- a fault that is passed on has the cause that it had
  pub FailedAt-passed : (counts counts' : List ℕ → ℕ) (fault : LoadFault) (result : Result B LoadFault) → IsErrAnd result (λ passed. passed ≡ fault) → (let answer : Result A LoadFault = Err fault in FailedAt counts counts' answer) → FailedAt counts counts' result
  FailedAt-passed counts counts' fault (Ok value) is failed = absurd is
  FailedAt-passed counts counts' fault (Err passed) is failed =
      subst (λ f. let answer : Result B LoadFault = Err f in FailedAt counts counts' answer) (sym is) (same fault failed)
    where
      same : (fault : LoadFault) → (let answer : Result A LoadFault = Err fault in FailedAt counts counts' answer) → (let answer : Result B LoadFault = Err fault in FailedAt counts counts' answer)
      same (Read file) failed = failed
      same (TooLong file) failed = tt
      same (Meta fault) failed = tt
      same (Text file line cause) failed = tt
      same (Rule file line cause) failed = tt
      same (ZoneTwice row) failed = tt
      same NoMemory failed = tt

module _ {A : Type 0} where
  -- if no file is read, no file is read but those to which a reading comes
  pub ReadsFor-none : (told : FilesTold) (counts : List ℕ → ℕ) (reading : ByTold A) → ReadsFor told told counts counts reading
  ReadsFor-none told counts reading = record { stays = λ _. inr refl; opens = λ _. inl refl; never_fall = λ _. omega arith }

  -- what is read for a reading, and then for the rest of it, is read for the reading
  pub ReadsFor-then : {first between last : FilesTold} {counts counts' counts'' : List ℕ → ℕ} {whole rest : ByTold A} → Follows between whole rest → ReadsFor first between counts counts' whole → ReadsFor between last counts' counts'' rest → ReadsFor first last counts counts'' whole
  ReadsFor-then {first} {between} {last} {counts} {counts'} {counts''} {whole} {rest} so_far a b = record {
    stays = StaysTold-then first between last a.stays b.stays;
    opens = Opens-then first between last whole rest b.stays so_far a.opens b.opens;
    never_fall = NoneFell-then counts counts' counts'' a.never_fall b.never_fall;
  }

  -- what answers the rest of a reading answers the reading
  pub HasAnswered-then : {first between last : FilesTold} {counts counts' counts'' : List ℕ → ℕ} {whole rest : ByTold A} {result : Result A LoadFault} → Follows between whole rest → ReadsFor first between counts counts' whole → HasAnswered between last counts' counts'' rest result → HasAnswered first last counts counts'' whole result
  HasAnswered-then {first} {between} {last} {counts} {counts'} {counts''} {whole} {rest} {result} so_far a b = record {
    answers = Answers-then between last whole rest result b.source.stays so_far b.answers;
    cause = FailedAt-then counts counts' counts'' result a.never_fall b.cause;
    source = ReadsFor-then so_far a b.source;
  }

  -- a reading for which no file is read is answered by what was told before
  pub HasAnswered-looked : (told : FilesTold) (counts : List ℕ → ℕ) (reading : ByTold A) (result : Result A LoadFault) → IfErr result IsNoRead → Answers told reading result → HasAnswered told told counts counts reading result
  HasAnswered-looked told counts reading result never answers = record {
    answers = answers;
    cause = FailedAt-no_read counts counts result never;
    source = ReadsFor-none told counts reading;
  }

  -- `NoMemory` answers any reading
  pub HasAnswered-wanting : {told told' : FilesTold} {counts counts' : List ℕ → ℕ} {reading : ByTold A} (result : Result A LoadFault) → ReadsFor told told' counts counts' reading → IsErrAnd result (λ fault. fault ≡ NoMemory) → HasAnswered told told' counts counts' reading result
  HasAnswered-wanting {told' = told'} {counts = counts} {counts' = counts'} {reading = reading} result source wants = record {
    answers = Answers-wanting told' reading result wants;
    cause = FailedAt-wanting counts counts' result wants;
    source = source;
  }

module _ {T E : Type 0} where
  -- what a definition says is answered, or `NoMemory`
  pub HasAnswered-told : (told : FilesTold) (counts : List ℕ → ℕ) (of : E → LoadFault) (said : Result T E) (result : Result T LoadFault) → ((fault : E) → IsNoRead (of fault)) → AnswersOr NoMemory result (with_fault of said) → HasAnswered told told counts counts (λ _. unless_refused of said) result
  HasAnswered-told told counts of said result never answered =
      HasAnswered-looked told counts (λ _. unless_refused of said) result
      (if_err_answered IsNoRead NoMemory result (with_fault of said) answered tt (if_err_told IsNoRead of said (each said)))
      (Answers-told told of said result never answered)
    where
      each : (said : Result T E) → IfErr said (λ fault. IsNoRead (of fault))
      each (Ok value) = tt
      each (Err fault) = never fault

module _ {A B : Type 0} where
  -- what is read for the first of two steps is read for both
  pub ReadsFor-bind : {told told' : FilesTold} {counts counts' : List ℕ → ℕ} (first : ByTold A) (next : FilesTold → A → Reading B) → ReadsFor told told' counts counts' first → ReadsFor told told' counts counts' (λ t. first t >>= next t)
  ReadsFor-bind {told} {told'} first next a = record {
    stays = a.stays;
    opens = Opens-bind told told' first next a.opens;
    never_fall = a.never_fall;
  }

  -- the fault of the first of two steps, passed on, answers both
  pub HasAnswered-passed : {told told' : FilesTold} {counts counts' : List ℕ → ℕ} (first : ByTold A) (next : FilesTold → A → Reading B) (fault : LoadFault) (result : Result B LoadFault) → IsErrAnd result (λ passed. passed ≡ fault) → (let answer : Result A LoadFault = Err fault in HasAnswered told told' counts counts' first answer) → HasAnswered told told' counts counts' (λ t. first t >>= next t) result
  HasAnswered-passed {told} {told'} {counts} {counts'} first next fault result is a = record {
    answers = Answers-passed told' first next fault result is a.answers;
    cause = FailedAt-passed A counts counts' fault result is a.cause;
    source = ReadsFor-bind first next a.source;
  }

  -- what answers the second of two steps, with the first's value, answers both
  pub HasAnswered-next : {before between after : FilesTold} {counts counts' counts'' : List ℕ → ℕ} (first : ByTold A) (value : A) (next : FilesTold → A → Reading B) (result : Result B LoadFault) → (let answer : Result A LoadFault = Ok value in HasAnswered before between counts counts' first answer) → HasAnswered between after counts' counts'' (λ t. next t value) result → HasAnswered before after counts counts'' (λ t. first t >>= next t) result
  HasAnswered-next {before} {between} {after} {counts} {counts'} {counts''} first value next result a b =
      HasAnswered-then {whole = λ t. first t >>= next t} {rest = λ t. next t value} (Follows-bind between first (λ _. Reads value) next a.answers) (ReadsFor-bind first next a.source) b

-- if only one file was read, no file was read but those to which the reading of that file comes
pub ReadsFor-file : (limits : Limits) {name : List ℕ} {told told' : FilesTold} {counts counts' : List ℕ → ℕ} → ReadsOnly name told told' counts counts' → ReadsFor told told' counts counts' (file_octets limits name)
ReadsFor-file limits {name} {told} {told'} only = record {
  stays = only.stays;
  opens = Opens-file limits told told' name only.others;
  never_fall = only.never_fall;
}

module _ (limits : Limits) {name : List ℕ} {told told' : FilesTold} {counts counts' : List ℕ → ℕ} where
  -- the octets of a file that was read to its end answer the reading of the file
  pub HasAnswered-whole : (octets : List ℕ) → ReadsOnly name told told' counts counts' → told' name ≡ Holds octets → length octets ≤ most_octets limits → (let answer : Result (List ℕ) LoadFault = Ok octets in HasAnswered told told' counts counts' (file_octets limits name) answer)
  HasAnswered-whole octets only here short = record {
    answers = Follows-whole limits told' name octets here short;
    cause = tt;
    source = ReadsFor-file limits only;
  }

  -- the reading of a file that is too long is answered with that fault
  pub HasAnswered-too_long : (fault : LoadFault) → ReadsOnly name told told' counts counts' → IsTooLongOf name fault → IsToldAnd (told' name) (λ octets. most_octets limits < length octets) → (let answer : Result (List ℕ) LoadFault = Err fault in HasAnswered told told' counts counts' (file_octets limits name) answer)
  HasAnswered-too_long fault only is long = record {
    answers = Answers-too_long limits told' name fault is long;
    cause = FailedAt-too_long (List ℕ) counts counts' name fault is;
    source = ReadsFor-file limits only;
  }

-- the reading of a file of which a read failed, behind others that didn't, is answered with that fault
pub HasAnswered-broken : (limits : Limits) {name : List ℕ} {before between after : FilesTold} {counts counts' counts'' : List ℕ → ℕ} (fault : LoadFault) (result : Result (List ℕ) LoadFault) → ReadsOnly name before between counts counts' → ReadsOnly name between after counts' counts'' → IsReadOf name fault → (let answer : Result ℕ LoadFault = Err fault in FailedAt counts' counts'' answer) → IsErrAnd result (λ passed. passed ≡ fault) → HasAnswered before after counts counts'' (file_octets limits name) result
HasAnswered-broken limits fault (Ok value) so_far only broken failed is = absurd is
HasAnswered-broken limits {name = name} {after = after} {counts = counts} {counts' = counts'} {counts'' = counts''} fault (Err passed) so_far only broken failed is = record {
  answers = Answers-read_fault limits after name passed (subst (IsReadOf name) (sym is) broken);
  cause = FailedAt-then {A = List ℕ} counts counts' counts'' (Err passed) so_far.never_fall (FailedAt-passed ℕ {B = List ℕ} counts' counts'' fault (Err passed) is failed);
  source = ReadsFor-file limits (ReadsOnly-then so_far only);
}

module _ {T : Type 0} where
  -- a file of which a read failed isn't read
  pub FailsToRead-passed : (limits : Limits) (told : FilesTold) (name : List ℕ) (fault : LoadFault) (result : Result T LoadFault) → IsReadOf name fault → IsErrAnd result (λ passed. passed ≡ fault) → IfErr result (FailsToRead limits told name)
  FailsToRead-passed limits told name fault (Ok value) broken is = absurd is
  FailsToRead-passed limits told name fault (Err passed) broken is = Answers-read_fault limits told name passed (subst (IsReadOf name) (sym is) broken)

  -- a file isn't read by who passes on why it isn't
  pub FailsToRead-again : (limits : Limits) (told : FilesTold) (name : List ℕ) (fault : LoadFault) (result : Result T LoadFault) → FailsToRead limits told name fault → IsErrAnd result (λ passed. passed ≡ fault) → IfErr result (FailsToRead limits told name)
  FailsToRead-again limits told name fault (Ok value) fails is = absurd is
  FailsToRead-again limits told name fault (Err passed) fails is = subst (FailsToRead limits told name) (sym is) fails

  -- `NoMemory` may stand for any failure
  pub FailsToRead-wanting : (limits : Limits) (told : FilesTold) (name : List ℕ) (result : Result T LoadFault) → IsErrAnd result (λ fault. fault ≡ NoMemory) → IfErr result (FailsToRead limits told name)
  FailsToRead-wanting limits told name (Ok value) wants = absurd wants
  FailsToRead-wanting limits told name (Err fault) wants = Answers-free told (file_octets limits name) fault wants
