-- Of faults with the classes that show them, there are those with the first class of each fault, in fault order.
use Rattle.std.proofs.Common.{◌≡◌, ◌∙◌, Bool, true, List, [], ◌∷◌, map, Contains, AllPairs, Less, Equal, refl, sym, ap, subst, inl, inr, arith, true≢false}
use Rattle.std.specs.Cmp.{IsTotalOrder}
use Rattle.std.specs.Ordering.{is_eq}
use Rattle.std.specs.declared.cmp.Ordering.{Ordering}
use Rattle.std.proofs.lemmas.List.Kept.{AllPairs-cons}
use Rattle.dns_data.proofs.LeastItems.{IsLeastItem, least_or_none}
use Rattle.dns_data.proofs.Membership.{none_in_nil, has_first, has_later, first_or_later, map_has, from_map, all_from_contains, pairs_first, pairs_rest}
use Rattle.graph_form.specs.FirstFaults.{AreFirsts}
use Rattle.graph_form.proofs.FirstTypes.{one_fault, fault_itself}
use Rattle.net_model.specs.declared.fault.Fault.{Fault}
use Rattle.net_model.specs.FaultOrder.{fault_cmp}
use Rattle.net_model.specs.Order.{in_order}
use Rattle.net_model.proofs.FaultOrder.{faults_total}
use Rattle.net_model.proofs.ItemsInOrder.{from_order}
use Rattle.plain_words.proofs.OrderedItems.{order_rises, order_has}

module _ {T : Type 0} (fault_of : T → Fault) (rank : T → T → Ordering) (total : IsTotalOrder rank) (all : List T) where
  -- the item has the fault
  abbrev has_fault : Fault → T → Bool
  has_fault fault item = is_eq (fault_cmp fault (fault_of item))

  same_fault : (fault : Fault) (item : T) → has_fault fault item ≡ true → fault ≡ fault_of item
  same_fault fault item e = by (fault_cmp fault (fault_of item)) refl e where
    by : (o : Ordering) → fault_cmp fault (fault_of item) ≡ o → is_eq o ≡ true → fault ≡ fault_of item
    by Equal tie e = one_fault fault (fault_of item) tie
    by _ tie e = cc

  fault_same : (fault : Fault) (item : T) → fault ≡ fault_of item → has_fault fault item ≡ true
  fault_same fault item e = ap is_eq (ap (fault_cmp fault) (sym e) ∙ fault_itself fault)

  -- the first items of faults of a list that rises
  record AreFirstsOf (faults : List Fault) (first : List T) : Type 0 where
    rises : AllPairs (λ a b. fault_cmp (fault_of a) (fault_of b) ≡ Less) first
    each : (item : T) → Contains first item → Contains all item × Contains faults (fault_of item)
    least : (fault : Fault) → Contains faults fault → (item : T) × Contains first item × (fault_of item ≡ fault) × IsLeastItem rank (has_fault fault) all item

  firsts_of : (faults : List Fault) → AllPairs (λ a b. fault_cmp a b ≡ Less) faults → ((fault : Fault) → Contains faults fault → (item : T) × Contains all item × (fault_of item ≡ fault))
      → (first : List T) × AreFirstsOf faults first
  firsts_of [] rises some = (
    [],
    record {
      rises = λ i j d before within. absurd (omega arith);
      each = λ item has. absurd (none_in_nil item has);
      least = λ fault has. absurd (none_in_nil fault has);
    },
  )
  firsts_of (fault ∷ faults) rises some =
      let (item, has, is) = some fault (has_first fault faults) in
      elim (least_or_none rank total (has_fault fault) all) [
        | inl none ↦ absurd (true≢false (sym (fault_same fault item (sym is)) ∙ none item has))
        | inr (least, first) ↦ (
            let (rest, are) = firsts_of faults (pairs_rest (λ a b. fault_cmp a b ≡ Less) fault faults rises) (λ f has. some f (has_later fault faults f has)) in
            (least ∷ rest, with_first fault faults rises least first rest are))
      ]
    where
      with_first : (fault : Fault) (faults : List Fault) → AllPairs (λ a b. fault_cmp a b ≡ Less) (fault ∷ faults) → (least : T) → IsLeastItem rank (has_fault fault) all least
          → (rest : List T) → AreFirstsOf faults rest → AreFirstsOf (fault ∷ faults) (least ∷ rest)
      with_first fault faults rises least first rest are =
          let own : fault ≡ fault_of least = same_fault fault least first.passes in
          record {
            rises =
                AllPairs-cons (λ a b. fault_cmp (fault_of a) (fault_of b) ≡ Less) least rest
                (all_from_contains (λ b. fault_cmp (fault_of least) (fault_of b) ≡ Less) rest
                (λ b has. subst (λ (f : Fault). fault_cmp f (fault_of b) ≡ Less) own
                (pairs_first (λ a b. fault_cmp a b ≡ Less) fault faults rises (fault_of b) (are.each b has).1)))
                are.rises;
            each = λ item has. elim (first_or_later least rest item has) [
              | inl same ↦ subst (λ (x : T). Contains all x × Contains (fault ∷ faults) (fault_of x)) same
                  (first.among, subst (Contains (fault ∷ faults)) own (has_first fault faults))
              | inr later ↦ ((are.each item later).0, has_later fault faults (fault_of item) (are.each item later).1)
            ];
            least = λ f has. elim (first_or_later fault faults f has) [
              | inl same ↦ (least, has_first least rest, sym own ∙ same, subst (λ (g : Fault). IsLeastItem rank (has_fault g) all least) same first)
              | inr later ↦ (let (item, inside, is, least_is) = are.least f later in (item, has_later least rest item inside, is, least_is))
            ];
          }

  -- of a list of items there are the first of each fault
  pub firsts_exist : (first : List T) × AreFirsts fault_of rank all first
  firsts_exist =
      let faults = in_order fault_cmp (map fault_of all) in
      let (first, are) = firsts_of faults (order_rises fault_cmp faults_total (map fault_of all))
      (λ fault has. from_map fault_of all fault (from_order fault_cmp (map fault_of all) fault has)) in (
        first,
        record {
          ordered = are.rises;
          from = λ item has. (are.each item has).0;
          covers = λ item has.
              let (by, inside, is, least) = are.least (fault_of item)
              (order_has fault_cmp faults_total (λ fault. Unit {0}) (λ a b p q tie. one_fault a b tie) (map fault_of all) (λ y has. tt) (fault_of item) (map_has fault_of all item has)) in
              record { by = by; has = inside; fault_is = is; not_later = least.none_before item has (fault_same (fault_of item) item refl) };
        },
      )
