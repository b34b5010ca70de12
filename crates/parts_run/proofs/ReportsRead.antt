-- The reading of the reports of files, one after the other.
use Rattle.std.proofs.Common.{◌≡◌, ℕ, ◌≤◌, List, [], ◌∷◌, ◌++◌, map, length, drop, Result, Ok, Err, IsErrAnd, sym, refl, ap, subst}
use Rattle.std.proofs.Math.ListN.{drop_of_length-le}
use Rattle.dns_data.specs.Answers.{AnswersOr}
use Rattle.io_edges.specs.Files.{FilesTold}
use Rattle.config_load.specs.Follows.{Follows}
use Rattle.config_load.specs.Limits.{largest_limits}
use Rattle.config_load.specs.Reading.{Reading, Reads, file_octets}
use Rattle.config_load.specs.Sources.{HasAnswered, ReadsFor}
use Rattle.config_load.specs.declared.fault.LoadFault.{LoadFault}
use Rattle.config_load.specs.declared.fault.LoadFault.TheVariants.{NoMemory}
use Rattle.config_load.specs.declared.limits.Limits.{Limits}
use Rattle.config_load.proofs.Follows.{Follows-same, Follows-bind}
use Rattle.config_load.proofs.Sources.{ReadsFor-bind, HasAnswered-looked, HasAnswered-next, HasAnswered-passed, HasAnswered-told}
use Rattle.part_form.specs.Stated.{PartStated, part_in, part_of}
use Rattle.part_form.specs.declared.stated.StatedPart.{StatedPart}
use Rattle.parts_run.specs.Answered.{answered}
use Rattle.parts_run.specs.Reading.{report_or, report_read, reports_read, with_report}
use Rattle.parts_run.specs.declared.fault.ReadFault.{ReadFault}
use Rattle.parts_run.specs.declared.fault.ReadFault.TheVariants.{NotReport, Load}

module _ {A B : Type 0} (told : A → B) where
  -- a fault of reading that is passed on answers as itself
  pub fault_answered : (result : Result A ReadFault) (fault : LoadFault) → IsErrAnd result (λ passed. passed ≡ Load fault)
      → IsErrAnd (answered told result) (λ passed. passed ≡ fault)
  fault_answered (Ok value) fault is = absurd is
  fault_answered (Err passed) fault is = subst (λ (f : ReadFault). let one : Result A ReadFault = Err f in IsErrAnd (answered told one) (λ p. p ≡ fault)) (sym is) refl

-- ---- one file

-- how the reading of the report of this file goes on behind its octets
abbrev behind_octets : List ℕ → FilesTold → List ℕ → Reading (Result PartStated (List ℕ))
behind_octets name told octets = Reads (report_or name (part_in octets))

module _ (name : List ℕ) (limits : Limits) (largest : limits ≡ largest_limits) {before after : FilesTold} {counts counts' : List ℕ → ℕ} where
  within : (answer : Result (List ℕ) LoadFault) → HasAnswered before after counts counts' (file_octets limits name) answer
      → HasAnswered before after counts counts' (file_octets largest_limits name) answer
  within answer = subst (λ (l : Limits). HasAnswered before after counts counts' (file_octets l name) answer) largest

  -- the fault of a file that isn't read answers the reading of its report
  pub fault_answers : (fault : LoadFault) (result : Result StatedPart ReadFault) → IsErrAnd result (λ passed. passed ≡ Load fault)
      → (let answer : Result (List ℕ) LoadFault = Err fault in HasAnswered before after counts counts' (file_octets limits name) answer)
      → HasAnswered before after counts counts' (report_read name) (answered part_of result)
  fault_answers fault result is whole =
      HasAnswered-passed (file_octets largest_limits name) (behind_octets name) fault (answered part_of result) (fault_answered part_of result fault is) (within (Err fault) whole)

  -- what the octets of the file are answers the reading of its report
  pub octets_answer : (octets : List ℕ) (result : Result StatedPart ReadFault)
      → (let answer : Result (List ℕ) LoadFault = Ok octets in HasAnswered before after counts counts' (file_octets limits name) answer)
      → AnswersOr NoMemory (answered part_of result) (Ok (report_or name (part_in octets)))
      → HasAnswered before after counts counts' (report_read name) (answered part_of result)
  octets_answer octets result whole answer =
      let said : Result (Result PartStated (List ℕ)) LoadFault = Ok (report_or name (part_in octets)) in
      HasAnswered-next (file_octets largest_limits name) octets (behind_octets name) (answered part_of result) (within (Ok octets) whole)
      (HasAnswered-told after counts' (λ (_ : LoadFault). NoMemory) said (answered part_of result) (λ _. tt) answer)

-- ---- files, one after the other

module _ (parts : List PartStated) (name : List ℕ) (more : List (List ℕ)) where
  -- how the reading goes on behind a file
  abbrev pub behind_report : FilesTold → Result PartStated (List ℕ) → Reading (Result (List PartStated) (List ℕ))
  behind_report told = with_report parts (λ (all : List PartStated). reports_read all more told)

  module _ {before after : FilesTold} {counts counts' : List ℕ → ℕ} where
    stops : (fault : ReadFault)
        → (let one : Result StatedPart ReadFault = Err fault in HasAnswered before after counts counts' (report_read name) (answered part_of one))
        → (let all : Result (List StatedPart) ReadFault = Err fault in HasAnswered before after counts counts' (reports_read parts (name ∷ more)) (answered (map part_of) all))
    stops (NotReport file) a =
        let none : Result (Result (List PartStated) (List ℕ)) LoadFault = Ok (Err file) in
        HasAnswered-next (report_read name) (Err file) behind_report none a
        (HasAnswered-looked after counts' (λ told. behind_report told (Err file)) none tt
        (Follows-same after (λ told. behind_report told (Err file)) (λ _. Reads (Err file)) (λ other. refl)))
    stops (Load cause) a =
        let failed : Result (Result (List PartStated) (List ℕ)) LoadFault = Err cause in
        HasAnswered-passed (report_read name) behind_report cause failed refl a

    -- a file whose report isn't read is the last
    pub stopped : (fault : ReadFault) (result : Result (List StatedPart) ReadFault) → IsErrAnd result (λ passed. passed ≡ fault)
        → (let one : Result StatedPart ReadFault = Err fault in HasAnswered before after counts counts' (report_read name) (answered part_of one))
        → HasAnswered before after counts counts' (reports_read parts (name ∷ more)) (answered (map part_of) result)
    stopped fault (Ok value) is answer = absurd is
    stopped fault (Err passed) is answer =
        subst (λ (f : ReadFault). let all : Result (List StatedPart) ReadFault = Err f in HasAnswered before after counts counts' (reports_read parts (name ∷ more)) (answered (map part_of) all))
        (sym is) (stops fault answer)

  -- behind a file with a report the reading goes on
  pub goes_on : (told : FilesTold) (part : PartStated) → Follows told (report_read name) (λ _. Reads (Ok part))
      → Follows told (reports_read parts (name ∷ more)) (reports_read (parts ++ part ∷ []) more)
  goes_on told part read = Follows-bind told (report_read name) (λ _. Reads (Ok part)) behind_report read

  -- what is read for the report of a file is read for all
  pub read_for_all : {before after : FilesTold} {counts counts' : List ℕ → ℕ} → ReadsFor before after counts counts' (report_read name)
      → ReadsFor before after counts counts' (reports_read parts (name ∷ more))
  read_for_all source = ReadsFor-bind (report_read name) behind_report source

-- at the end of the files there is none more to be read
pub none_left : (parts : List PartStated) (names : List (List ℕ)) (i : ℕ) (told : FilesTold) → length names ≤ i
    → reports_read parts (drop i names) told ≡ Reads (Ok parts)
none_left parts names i told past = ap (λ (rest : List (List ℕ)). reports_read parts rest told) (drop_of_length-le names past)
