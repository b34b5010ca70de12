-- Entries that are looked at in order, up to the first that isn't confirmed.
use Rattle.std.proofs.Common.{◌≡◌, ℕ, ◌+◌, ◌<◌, ◌≤◌, List, [], ◌∷◌, ◌++◌, zero, suc, length, map, take, drop, get_or, Some, Result, Ok, Err, IsErr, IsErrAnd, refl, sym, ap, subst, ◌∙◌, arith}
use Rattle.std.proofs.lemmas.List.{take_more, take_all}
use Rattle.std.specs.List.{AllByRecursion}
use Rattle.dns_data.proofs.Names.{all_push}
use Rattle.net_model.specs.declared.config.Config.{Config}
use Rattle.serde_json.specs.Data.{Data}
use Rattle.report_check.specs.Checked.{IsChecked, IsConfirmed, IsFirst, IsWrong, LearningPasses, PassesWalks}
use Rattle.report_check.specs.Entries.{EntriesComeTo, EntryComesTo}
use Rattle.report_check.specs.ReportIn.{report_in}
use Rattle.report_check.specs.declared.answer.Checked.{Checked}
use Rattle.report_check.specs.declared.answer.Checked.TheVariants.{Right, Wrong}
use Rattle.report_check.specs.declared.answer.CheckFault.{CheckFault}
use Rattle.report_check.specs.declared.answer.CheckFault.TheVariants.{NotReport, Walks, NoMemory}

module _ {V : Type 0} (see : V → Data) where
  -- what holds along a list of values holds of the value of one item
  pub at_item : (P : Data → Type 0) (xs : List V) (i : ℕ) (x : V) → AllByRecursion P (map see xs) → i < length xs → x ≡ get_or xs i x → P (see x)
  at_item P [] i x each below is = absurd (omega arith)
  at_item P (y ∷ xs) zero x each below is = subst (λ z. P (see z)) (sym is) each.0
  at_item P (y ∷ xs) (suc i) x each below is = at_item P xs i x each.1 (omega arith) is

  -- what holds of the values of the first items and of the next one holds of those of all of them
  pub one_more : (P : Data → Type 0) (xs : List V) (i : ℕ) (x : V) → i < length xs → x ≡ get_or xs i x → AllByRecursion P (map see (take i xs)) → P (see x) → AllByRecursion P (map see (take (i + 1) xs))
  one_more P xs i x there is each one =
      subst (λ l. AllByRecursion P (map see l)) (ap (λ y. take i xs ++ y ∷ []) is ∙ sym (take_more xs i x there))
      (subst (AllByRecursion P) (mapped (take i xs)) (all_push P (map see (take i xs)) (see x) each one))
    where
      mapped : (ys : List V) → map see ys ++ see x ∷ [] ≡ map see (ys ++ x ∷ [])
      mapped [] = refl
      mapped (y ∷ ys) = ap (λ l. see y ∷ l) (mapped ys)

  -- what holds of the values of as many items as there are holds of all
  pub all_of : (P : Data → Type 0) (xs : List V) (i : ℕ) → length xs ≤ i → AllByRecursion P (map see (take i xs)) → AllByRecursion P (map see xs)
  all_of P xs i past each = subst (λ l. AllByRecursion P (map see l)) (take_all i xs past) each

  split : (ys : List V) (k : ℕ) (y : V) → k < length ys → y ≡ get_or ys k y → map see ys ≡ map see (take k ys) ++ see y ∷ map see (drop (suc k) ys)
  split [] k y below at = absurd (omega arith)
  split (z ∷ ys) zero y below at = ap (λ w. see w ∷ map see ys) (sym at)
  split (z ∷ ys) (suc k) y below at = ap (λ l. see z ∷ l) (split ys k y (omega arith) at)

  count : (ys : List V) (k : ℕ) → k < length ys → length (map see (take k ys)) ≡ k
  count [] k below = absurd (omega arith)
  count (z ∷ ys) zero below = refl
  count (z ∷ ys) (suc k) below = ap suc (count ys k (omega arith))

  -- the next entry is the first with the property, if all before are confirmed and it has it
  pub first_so : (config : Config) (rewrites : ℕ) (so : Data → Type 0) (xs : List V) (i : ℕ) (x : V) (number : ℕ) → i < length xs → x ≡ get_or xs i x → number ≡ i + 1
      → AllByRecursion (IsConfirmed config rewrites) (map see (take i xs)) → so (see x) → IsFirst config rewrites so (map see xs) number
  first_so config rewrites so xs i x number there is counted each this =
      record {
        before = map see (take i xs);
        entry = see x;
        after = map see (drop (suc i) xs);
        splits = split xs i x there is;
        confirmed = each;
        is_so = this;
        counted = counted ∙ ap (λ n. n + 1) (sym (count xs i there));
      }

-- what the entries come to is the answer, where they are looked at
pub comes_checked : (config : Config) (octets : List ℕ) (rewrites : ℕ) (all : List Data) → report_in octets ≡ Some (record { rewrites = rewrites; entries = all })
    → (LearningPasses config rewrites → ⊥) → (answer : Result Checked CheckFault) → EntriesComeTo config rewrites all answer → IsChecked config octets answer
comes_checked config octets rewrites all stated few (Ok (Right entries)) comes = (record { rewrites = rewrites; entries = all }, stated, (few, comes))
comes_checked config octets rewrites all stated few (Ok (Wrong entry)) comes = (record { rewrites = rewrites; entries = all }, stated, (few, comes))
comes_checked config octets rewrites all stated few (Err NotReport) comes = absurd comes
comes_checked config octets rewrites all stated few (Err (Walks zero)) comes = absurd (omega (arith, comes.counted))
comes_checked config octets rewrites all stated few (Err (Walks (suc before))) comes = (record { rewrites = rewrites; entries = all }, stated, (few, comes))
comes_checked config octets rewrites all stated few (Err NoMemory) comes = tt

module _ {V : Type 0} (see : V → Data) (config : Config) (rewrites : ℕ) (xs : List V) (i : ℕ) (x : V) (there : i < length xs) (is : x ≡ get_or xs i x)
    (each : AllByRecursion (IsConfirmed config rewrites) (map see (take i xs))) where
  -- where all before an entry are confirmed, a fault at the entry is that of all
  pub fault_comes : (fault : CheckFault) → EntryComesTo config rewrites (i + 1) (see x) (Err fault) → EntriesComeTo config rewrites (map see xs) (Err fault)
  fault_comes NotReport looked = absurd looked
  fault_comes (Walks entry) looked = first_so see config rewrites (PassesWalks config rewrites) xs i x entry there is looked.0 each looked.1
  fault_comes NoMemory looked = tt

  -- if all entries before are confirmed and the next is wrong, it is the first wrong one
  pub wrong_comes : IsWrong config rewrites (see x) → IsFirst config rewrites (IsWrong config rewrites) (map see xs) (i + 1)
  wrong_comes wrong = first_so see config rewrites (IsWrong config rewrites) xs i x (i + 1) there is refl each wrong

-- a fault of the entries that is handed on is what they come to
pub handed_on : (config : Config) (rewrites : ℕ) (all : List Data) (fault : CheckFault) (answer : Result Checked CheckFault) → IsErr answer × IsErrAnd answer (λ own. own ≡ fault)
    → EntriesComeTo config rewrites all (Err fault) → EntriesComeTo config rewrites all answer
handed_on config rewrites all fault (Ok checked) is comes = absurd cc
handed_on config rewrites all fault (Err own) is comes = subst (λ (f : CheckFault). EntriesComeTo config rewrites all (Err f)) (sym is.1) comes
