-- Steps of a reading that look at what was read.
use Rattle.std.proofs.Common.{◌≡◌, ℕ, ◌+◌, ◌<◌, ◌≤◌, Bool, true, false, List, ◌∷◌, length, drop, get_or, Result, Ok, Err, IsErrAnd, if◌then◌else◌, subst, sym, ap, ◌∙◌, inl, inr, add-one}
use Rattle.std.proofs.Math.Seq.{drop-cons}
use Rattle.std.proofs.Math.ListN.{drop_of_length-le}
use Rattle.dns_data.specs.Answers.{AnswersOr, with_fault}
use Rattle.dns_data.specs.Name.{Labels}
use Rattle.io_edges.specs.Files.{FilesTold}
use Rattle.meta_read.specs.declared.fault.MetaFault.{MetaFault}
use Rattle.meta_read.specs.declared.fault.MetaFault.TheVariants as meta_faults
use Rattle.meta_read.specs.declared.meta.MetaRow.{MetaRow}
use Rattle.net_model.specs.declared.config.Server.{Server}
use Rattle.net_model.specs.declared.config.Zone.{Zone}
use Rattle.zone_rules.specs.declared.fault.RuleFault.{RuleFault}
use Rattle.zone_rules.specs.declared.fault.RuleFault.TheVariants as rule_faults
use Rattle.config_load.specs.Conf.{with_rows_unless}
use Rattle.config_load.specs.Faults.{FailedAt, of_metadata, of_rule}
use Rattle.config_load.specs.Follows.{ByTold, Follows, Answers}
use Rattle.config_load.specs.Reading.{Reads, Refuses, unless_refused}
use Rattle.config_load.specs.Servers.{has_zone, with_zone, given}
use Rattle.config_load.specs.declared.fault.LoadFault.{LoadFault}
use Rattle.config_load.specs.declared.fault.LoadFault.TheVariants.{Read, TooLong, Meta, Text, Rule, ZoneTwice, NoMemory}
use Rattle.config_load.specs.declared.rows.ReadRows.{ReadRows}
use Rattle.config_load.proofs.Follows.{Follows-same}

-- a fault that is no failed read
abbrev pub IsNoRead : LoadFault → Type 0
IsNoRead (Read file) = ⊥
IsNoRead fault = Unit {0}

-- a fault of metadata is no failed read
pub IsNoRead-of_metadata : (fault : MetaFault) → IsNoRead (of_metadata fault)
IsNoRead-of_metadata meta_faults.NotJson = tt
IsNoRead-of_metadata (meta_faults.Shape row) = tt
IsNoRead-of_metadata (meta_faults.BadName row) = tt
IsNoRead-of_metadata (meta_faults.TopUnhosted name) = tt
IsNoRead-of_metadata meta_faults.NoTops = tt
IsNoRead-of_metadata meta_faults.TooManyRows = tt
IsNoRead-of_metadata meta_faults.NoMemory = tt

-- a fault of a zone's records is no failed read
pub IsNoRead-of_rule : (names : List (List ℕ)) (fault : RuleFault) → IsNoRead (of_rule names fault)
IsNoRead-of_rule names (rule_faults.At file line cause) = tt
IsNoRead-of_rule names rule_faults.NoMemory = tt

module _ {A : Type 0} where
  -- a refusal that the reading gives is answered
  pub Answers-refused : (told : FilesTold) (reading : ByTold A) (fault : LoadFault) → IsNoRead fault → Follows told reading (λ _. Refuses fault) → (let answer : Result A LoadFault = Err fault in Answers told reading answer)
  Answers-refused told reading (Read file) never a = absurd never
  Answers-refused told reading NoMemory never a = tt
  Answers-refused told reading (TooLong file) never a = a
  Answers-refused told reading (Meta fault) never a = a
  Answers-refused told reading (Text file line cause) never a = a
  Answers-refused told reading (Rule file line cause) never a = a
  Answers-refused told reading (ZoneTwice row) never a = a

  -- `NoMemory` answers any reading
  pub Answers-free : (told : FilesTold) (reading : ByTold A) (fault : LoadFault) → fault ≡ NoMemory → (let answer : Result A LoadFault = Err fault in Answers told reading answer)
  Answers-free told reading fault free = subst (λ f. let answer : Result A LoadFault = Err f in Answers told reading answer) (sym free) tt

module _ {A : Type 0} where
  -- a call's `NoMemory` that is passed on answers any reading
  pub Answers-wanting : (told : FilesTold) (reading : ByTold A) (result : Result A LoadFault) → IsErrAnd result (λ fault. fault ≡ NoMemory) → Answers told reading result
  Answers-wanting told reading (Ok value) wants = absurd wants
  Answers-wanting told reading (Err fault) wants = Answers-free told reading fault wants

-- `NoMemory` fails at no file
pub FailedAt-wanting : {A : Type 0} (before after : List ℕ → ℕ) (result : Result A LoadFault) → IsErrAnd result (λ fault. fault ≡ NoMemory) → FailedAt before after result
FailedAt-wanting before after (Ok value) wants = tt
FailedAt-wanting {A} before after (Err fault) wants =
    subst (λ f. let answer : Result A LoadFault = Err f in FailedAt before after answer) (sym wants) tt

module _ {T E : Type 0} where
  -- what a definition says is answered, or `NoMemory`
  pub Answers-told : (told : FilesTold) (of : E → LoadFault) (said : Result T E) (result : Result T LoadFault) → ((fault : E) → IsNoRead (of fault)) → AnswersOr NoMemory result (with_fault of said) → Answers told (λ _. unless_refused of said) result
  Answers-told told of (Ok value) (Ok other) no_read answered =
      let same : value ≡ other = cc in
      Follows-same told (λ _. Reads value) (λ _. Reads other) (λ _. ap Reads same)
  Answers-told told of (Err fault) (Ok other) no_read answered = absurd cc
  Answers-told told of said (Err other) no_read (inl free) = Answers-free told (λ _. unless_refused of said) other free
  Answers-told told of (Ok value) (Err other) no_read (inr is) = absurd cc
  Answers-told told of (Err fault) (Err other) no_read (inr is) =
      let same : of fault ≡ other = cc in
      Answers-refused told (λ _. Refuses (of fault)) other (subst IsNoRead same (no_read fault))
      (Follows-same told (λ _. Refuses (of fault)) (λ _. Refuses other) (λ _. ap Refuses same))

-- a zone that isn't given to its server is there twice
given-fault : (number : ℕ) (name : Labels) (zone : Zone) (servers : List Server) (fault : LoadFault) → given number name zone servers ≡ Err fault → fault ≡ ZoneTwice number
given-fault number name zone servers fault is = by_test (has_zone name zone.origin servers) is where
  by_test : (had : Bool) → (if had then Err (ZoneTwice number) else Ok (with_zone name zone servers)) ≡ Err fault → fault ≡ ZoneTwice number
  by_test true is = let e : ZoneTwice number ≡ fault = cc in sym e
  by_test false is = absurd cc

-- whether a zone is given to its server, or why not, is answered
pub Answers-given : (told : FilesTold) (number : ℕ) (name : Labels) (zone : Zone) (servers : List Server) (result : Result (List Server) LoadFault) → AnswersOr NoMemory result (given number name zone servers) → Answers told (λ _. unless_refused (λ fault. fault) (given number name zone servers)) result
Answers-given told number name zone servers (Ok value) answered =
    Follows-same told (λ _. unless_refused (λ fault. fault) (given number name zone servers)) (λ _. Reads value) (λ other. ap (unless_refused (λ fault. fault)) answered)
Answers-given told number name zone servers (Err fault) (inl free) =
    Answers-free told (λ _. unless_refused (λ fault. fault) (given number name zone servers)) fault free
Answers-given told number name zone servers (Err fault) (inr is) =
    Answers-refused told (λ _. unless_refused (λ fault. fault) (given number name zone servers)) fault
    (subst IsNoRead (sym (given-fault number name zone servers fault is)) tt)
    (Follows-same told (λ _. unless_refused (λ fault. fault) (given number name zone servers)) (λ _. Refuses fault) (λ other. ap (unless_refused (λ fault. fault)) is))

-- Rows.

-- the rows that are left begin with the next row
pub rest-more : (all : List MetaRow) (i : ℕ) (row : MetaRow) → i < length all → row ≡ get_or all i row → drop i all ≡ row ∷ drop (i + 1) all
rest-more all i row below is = drop-cons all i row below ∙ (λ j. sym is j ∷ drop (sym (add-one i) j) all)

-- at the end of the rows there is none more to be read
pub with_rows-end : (skips : MetaRow → Bool) (meta : List ℕ) (all : List MetaRow) (i : ℕ) (rows : ReadRows) (told : FilesTold) → length all ≤ i → with_rows_unless skips meta (i + 1) (drop i all) rows told ≡ Reads rows
unfolding with_rows_unless
with_rows-end skips meta all i rows told past = ap (λ (rest : List MetaRow). with_rows_unless skips meta (i + 1) rest rows told) (drop_of_length-le all past)
