-- What an answer says that is left of what a reading gives.
use Rattle.std.proofs.Common.{◌≡◌, List, [], ◌∷◌, ℕ, map, Result, Ok, Err, refl, sym, ap, ◌∙◌, subst}
use Rattle.io_edges.specs.Files.{FilesTold}
use Rattle.net_model.specs.Reading.{zones}
use Rattle.net_model.specs.declared.config.Config.{Config}
use Rattle.net_model.specs.declared.config.Server.{Server}
use Rattle.net_model.specs.declared.config.Zone.{Zone}
use Rattle.config_load.specs.Faults.{FailedAt}
use Rattle.config_load.specs.Follows.{ByTold}
use Rattle.config_load.specs.Left.{HasLeft, IsLeft, loaded_left}
use Rattle.config_load.specs.Load.{FailedWhereItCame, Gives, IsReadFault}
use Rattle.config_load.specs.Reading.{Misses, Unknown}
use Rattle.config_load.specs.Sources.{HasAnswered}
use Rattle.config_load.specs.Taken.{AreTaken, GivesLeft, config_left, server_left}
use Rattle.config_load.specs.declared.fault.LoadFault.{LoadFault}
use Rattle.config_load.specs.declared.loaded.Loaded.{Loaded}
use Rattle.config_load.proofs.Answered.{FailedWhereItCame-answers, Gives-answers, IsReadFault-misses, IsReadFault-unknown}
use Rattle.config_load.proofs.LeftRows.{of_fault, of_value}

-- ---- where each zone is left as it is

same_zones : (zones : List Zone) → map (λ (zone : Zone). zone) zones ≡ zones
same_zones [] = refl
same_zones (zone ∷ zones) = ap (λ (all : List Zone). zone ∷ all) (same_zones zones)

same_servers : (servers : List Server) → map (server_left (λ zone. zone)) servers ≡ servers
same_servers [] = refl
same_servers (server ∷ servers) = λ i. record { name = server.name; zones = same_zones server.zones i } ∷ same_servers servers i

-- the answer is that of the reading
pub whole_answers : {told told' : FilesTold} {counts counts' : List ℕ → ℕ} {reading : ByTold Loaded} {Taken : Loaded → Type 0} (result : Result Loaded LoadFault)
    → HasLeft told told' counts counts' reading (loaded_left (λ zone. zone)) Taken result → HasAnswered told told' counts counts' reading result
whole_answers {told} {told'} {counts} {counts'} {reading} (Ok all) has =
    let (value, answered, is, taken) = of_value all has in
    let same : value ≡ all = (λ i. record { config = record { tops = value.config.tops; servers = sym (same_servers value.config.servers) i }; rows = value.rows }) ∙ sym is in
    subst (λ (one : Loaded). let answer : Result Loaded LoadFault = Ok one in HasAnswered told told' counts counts' reading answer) same answered
whole_answers (Err fault) has = of_fault fault has

-- ---- what the answer says

-- where the answer is a failed read, so is what is left of it
read_fault : {A : Type 0} (left : A → A) (Taken : A → Type 0) (whole result : Result A LoadFault) → IsLeft left Taken whole result → IsReadFault whole → IsReadFault result
read_fault {A} left Taken whole (Ok kept) is failed = subst (λ (r : Result A LoadFault). IsReadFault r) is.1 failed
read_fault {A} left Taken whole (Err fault) is failed = subst (λ (r : Result A LoadFault). IsReadFault r) is failed

module _ {A : Type 0} {told told' : FilesTold} {counts counts' : List ℕ → ℕ} {reading : ByTold A} {left : A → A} {Taken : A → Type 0} where
  -- a failed read has its cause
  pub left_cause : (result : Result A LoadFault) → HasLeft told told' counts counts' reading left Taken result → FailedAt counts counts' result
  left_cause (Ok value) has = tt
  left_cause (Err fault) has = (of_fault fault has).cause

  -- and is of a file to which the reading comes
  pub left_order : (result : Result A LoadFault) → HasLeft told told' counts counts' reading left Taken result → FailedWhereItCame reading told' result
  left_order (Ok value) has = tt
  left_order (Err fault) has =
      let answer : Result A LoadFault = Err fault in
      FailedWhereItCame-answers told' reading answer (of_fault fault has).answers

  -- a reading that gives nothing is a failed read
  pub left_misses : (result : Result A LoadFault) → HasLeft told told' counts counts' reading left Taken result → (file : List ℕ) → reading told' ≡ Misses file → IsReadFault result
  left_misses result has file is =
      read_fault left Taken has.whole result has.is (IsReadFault-misses (reading told') file has.whole is (Gives-answers told' reading has.whole has.answered.answers))

  pub left_unknown : (result : Result A LoadFault) → HasLeft told told' counts counts' reading left Taken result → (file : List ℕ) → reading told' ≡ Unknown file → IsReadFault result
  left_unknown result has file is =
      read_fault left Taken has.whole result has.is (IsReadFault-unknown (reading told') file has.whole is (Gives-answers told' reading has.whole has.answered.answers))

module _ {told told' : FilesTold} {counts counts' : List ℕ → ℕ} {reading : ByTold Config} {left : Zone → Zone} {took : List Zone → Type 0} where
  -- what is answered by what is told now, and by what gives the same
  pub gives_left : (later : FilesTold) → ((answer : Result Config LoadFault) → Gives (reading told') answer → Gives (reading later) answer)
      → (result : Result Config LoadFault) → HasLeft told told' counts counts' reading (config_left left) (λ (config : Config). AreTaken took (zones config)) result → GivesLeft left took (reading later) result
  gives_left later steady (Ok config) has =
      let (whole, answered, is, taken) = of_value config has in
      let answer : Result Config LoadFault = Ok whole in
      (whole, steady answer (Gives-answers told' reading answer answered.answers), record { is = is; taken = taken })
  gives_left later steady (Err fault) has =
      let answer : Result Config LoadFault = Err fault in
      steady answer (Gives-answers told' reading answer (of_fault fault has).answers)
