-- Runs in the order of their owners: those of a name stand together, and what they are a stable sort keeps.
use Rattle.std.proofs.Common.{◌≡◌, ◌≢◌, ℕ, zero, suc, ◌+◌, ◌<◌, Bool, true, false, cond, not, ◌&&◌, List, [], ◌∷◌, ◌++◌, map, filter, flat_map, length, get_or, take, drop, Contains, IsSorted, Bor, Ordering, Less, Equal, Greater, is_lt, is_gt, sym, refl, ap, ◌∙◌, subst, inl, inr, true≢false, arith}
use Rattle.std.proofs.lemmas.Bool.{cases_lt, cases_eq}
use Rattle.std.proofs.lemmas.Cmp.{tied_itself}
use Rattle.std.proofs.lemmas.List.{get_or_default, map-append}
use Rattle.std.specs.Ordering.{ordering_reverse}
use Rattle.dns_data.specs.Name.{Labels, name_eq, name_cmp, is_prefix, AreInOrder}
use Rattle.dns_data.specs.declared.rdata.Rdata.{Rdata}
use Rattle.dns_data.specs.declared.rdata.Rr.{Rr}
use Rattle.dns_data.proofs.Membership.{has_first, has_later}
use Rattle.dns_data.proofs.NameOrder.{UpTo, Before, names_total, before_up_to, before_differs, behind_differs}
use Rattle.dns_data.proofs.Names.{name_eq_decides, same_names}
use Rattle.dns_data.proofs.OrderedLists.{never_before_itself}
use Rattle.zone_tree.specs.Owners.{data_of_runs, leading}
use Rattle.zone_tree.specs.Records.{data_of}
use Rattle.zone_tree.specs.Runs.{data_of_run, owner_of, records_in}
use Rattle.zone_tree.specs.declared.runs.KeyedRun.{KeyedRun}
use Rattle.zone_tree.proofs.SortedTree.{InOrder, in_order_after}

-- the data of a record
abbrev pub rdata_of : Rr → Rdata
rdata_of rr = rr.rdata

-- the record behind a reference
abbrev pub now_of : Bor Rr → Rr
now_of rr = rr.now

-- the data of runs are those of their records
pub data_of_all : (runs : List KeyedRun) → map rdata_of (flat_map records_in runs) ≡ flat_map data_of_run runs
data_of_all [] = refl
data_of_all (run ∷ runs) =
    map-append rdata_of (records_in run) (flat_map records_in runs) ∙ ap (λ (all : List Rdata). data_of_run run ++ all) (data_of_all runs)

-- ---- the runs of a name at the front

-- a name that stands before the first of names in order is none of them
none_owned : (name first : Labels) (runs : List KeyedRun) → Before name first → InOrder first (map owner_of runs) → data_of_runs runs name ≡ []
none_owned name first [] before order = refl
none_owned name first (run ∷ runs) before order =
    let here : Before name (owner_of run) = before_up_to name first (owner_of run) before order.0 in
    rw (behind_differs (owner_of run) name here) (none_owned name (owner_of run) runs here order.1)

-- a name that stands up to another and isn't it stands before it
up_to_other : (name other : Labels) → UpTo name other → name_eq other name ≡ false → Before name other
up_to_other name other le differs = by (name_cmp name other) refl le where
  by : (o : Ordering) → name_cmp name other ≡ o → is_gt o ≡ false → Before name other
  by Less e h = e
  by Equal e h = absurd (true≢false (sym ((name_eq_decides other name).1 (sym (same_names name other e))) ∙ differs))
  by Greater e h = absurd (true≢false h)

module _ (name : Labels) where
  -- the runs of a name are the first runs, if the list stands in order from that name on
  pub data_leading : (runs : List KeyedRun) → InOrder name (map owner_of runs)
      → data_of_runs runs name ≡ flat_map data_of_run (take (leading name (map owner_of runs)) runs)
  data_leading [] order = refl
  data_leading (run ∷ runs) order = by (name_eq (owner_of run) name) refl (data_leading runs) where
    by : (b : Bool) → name_eq (owner_of run) name ≡ b
        → (InOrder name (map owner_of runs) → data_of_runs runs name ≡ flat_map data_of_run (take (leading name (map owner_of runs)) runs))
        → flat_map data_of_run (cond b (run ∷ filter (λ other. name_eq (owner_of other) name) runs) (filter (λ other. name_eq (owner_of other) name) runs))
        ≡ flat_map data_of_run (take (cond b (suc (leading name (map owner_of runs))) 0) (run ∷ runs))
    by true e rest =
        let same : owner_of run ≡ name = (name_eq_decides (owner_of run) name).0 e in
        ap (λ (all : List Rdata). data_of_run run ++ all) (rest (subst (λ (x : Labels). InOrder x (map owner_of runs)) same order.1))
    by false e rest = none_owned name (owner_of run) runs (up_to_other name (owner_of run) order.0 e) order.1

  -- the runs of another name are behind the first runs of a name
  pub data_behind : (runs : List KeyedRun) (other : Labels) → name_eq name other ≡ false
      → data_of_runs (drop (leading name (map owner_of runs)) runs) other ≡ data_of_runs runs other
  data_behind [] other differs = refl
  data_behind (run ∷ runs) other differs = by (name_eq (owner_of run) name) refl (data_behind runs other differs) where
    by : (b : Bool) → name_eq (owner_of run) name ≡ b → data_of_runs (drop (leading name (map owner_of runs)) runs) other ≡ data_of_runs runs other
        → data_of_runs (drop (cond b (suc (leading name (map owner_of runs))) 0) (run ∷ runs)) other ≡ data_of_runs (run ∷ runs) other
    by true e rest =
        let same : name ≡ owner_of run = sym ((name_eq_decides (owner_of run) name).0 e) in
        rest ∙ sym (ap (λ (b : Bool). flat_map data_of_run (cond b (run ∷ filter (λ one. name_eq (owner_of one) other) runs) (filter (λ one. name_eq (owner_of one) other) runs)))
        (ap (λ (x : Labels). name_eq x other) (sym same) ∙ differs))
    by false e rest = refl

  -- the owners behind those that are a name stand in order from a later name on, if each that stands behind the name
  -- stands up to it
  pub order_behind : (owners : List Labels) (next : Labels) → InOrder name owners
      → ((owner : Labels) → Contains owners owner → Before name owner → UpTo next owner) → InOrder next (drop (leading name owners) owners)
  order_behind [] next order later = tt
  order_behind (owner ∷ owners) next order later = by (name_eq owner name) refl (order_behind owners next) where
    by : (b : Bool) → name_eq owner name ≡ b
        → (InOrder name owners → ((other : Labels) → Contains owners other → Before name other → UpTo next other) → InOrder next (drop (leading name owners) owners))
        → InOrder next (drop (cond b (suc (leading name owners)) 0) (owner ∷ owners))
    by true e rest =
        let same : owner ≡ name = (name_eq_decides owner name).0 e in
        rest (subst (λ (x : Labels). InOrder x owners) same order.1) (λ other has. later other (has_later owner owners other has))
    by false e rest = (later owner (has_first owner owners) (up_to_other name owner order.0 e), order.1)

-- what stands behind the front of a list is in it
pub from_drop : {X : Type 0} (n : ℕ) (xs : List X) (x : X) → Contains (drop n xs) x → Contains xs x
from_drop zero xs x has = has
from_drop (suc n) [] x has = has
from_drop (suc n) (first ∷ xs) x has = has_later first xs x (from_drop n xs x has)

-- ---- names in order

-- a name doesn't stand behind itself
itself : (name : Labels) → UpTo name name
itself name = ap is_gt (tied_itself names_total name)

module _ (names : List Labels) (ordered : AreInOrder names) where
  -- where a name of the list stands
  place_of : (name : Labels) → Contains names name → (k : ℕ) × (k < length names) × (get_or names k [] ≡ name)
  place_of name has = (has.0, has.1, get_or_default names has.0 [] name has.1 ∙ has.2)

  -- the first name stands up to each
  pub first_up_to : (name : Labels) → Contains names name → UpTo (get_or names 0 []) name
  first_up_to name has =
      let there = place_of name has in
      let k : ℕ = there.0 in
      elim (cases_eq k 0) [
        | inl first ↦ (
            let same : get_or names 0 [] ≡ name = ap (λ (n : ℕ). get_or names n []) (sym first) ∙ there.2 in
            subst (UpTo (get_or names 0 [])) same (itself (get_or names 0 [])))
        | inr later ↦ (
            let ne : k ≢ 0 = later in
            let before : Before (get_or names 0 []) (get_or names k []) = ordered 0 k [] (omega arith) there.1 in
            ap is_gt (subst (Before (get_or names 0 [])) there.2 before))
      ]

  -- what stands behind a name of the list stands behind the place of that name
  behind_place : (i : ℕ) (name : Labels) → i < length names → Before (get_or names i []) name → (k : ℕ) → k < length names → get_or names k [] ≡ name → i < k
  behind_place i name within before k below is =
      elim (cases_lt i k) [
        | inl higher ↦ higher
        | inr lower ↦ elim (cases_eq k i) [
          | inl here ↦ (
              let same : get_or names i [] ≡ name = ap (λ (n : ℕ). get_or names n []) (sym here) ∙ is in
              absurd (never_before_itself name_cmp names_total name (subst (λ (x : Labels). Before x name) same before)))
          | inr other ↦ (
              let ne : k ≢ i = other in
              let back : Before (get_or names k []) (get_or names i []) = ordered k i [] (omega arith) within in
              absurd (never_before_itself name_cmp names_total name (names_total.trans name (get_or names i []) name (subst (λ (x : Labels). Before x (get_or names i [])) is back) before)))
        ]
      ]

  -- a name of the list that stands behind one doesn't stand before the next one
  pub next_up_to : (i : ℕ) (name : Labels) → i < length names → Contains names name → Before (get_or names i []) name → UpTo (get_or names (i + 1) []) name
  next_up_to i name within has before =
      let there = place_of name has in
      let k : ℕ = there.0 in
      let higher : i < k = behind_place i name within before k there.1 there.2 in
      elim (cases_eq k (i + 1)) [
        | inl next ↦ (
            let same : get_or names (i + 1) [] ≡ name = ap (λ (n : ℕ). get_or names n []) (sym next) ∙ there.2 in
            subst (UpTo (get_or names (i + 1) [])) same (itself (get_or names (i + 1) [])))
        | inr later ↦ (
            let ne : k ≢ i + 1 = later in
            let first : Before (get_or names (i + 1) []) (get_or names k []) = ordered (i + 1) k [] (omega arith) there.1 in
            ap is_gt (subst (Before (get_or names (i + 1) [])) there.2 first))
      ]

  -- sorted owners that are among the names stand in order from the first name on
  pub order_from_first : (owners : List Labels) → IsSorted name_cmp owners → ((owner : Labels) → Contains owners owner → Contains names owner)
      → InOrder (get_or names 0 []) owners
  order_from_first [] sorted among = tt
  order_from_first (owner ∷ owners) sorted among =
      (first_up_to owner (among owner (has_first owner owners)), in_order_after owner owners sorted)

-- ---- what a sort by owners keeps

-- names of which neither stands before the other are equal, as a sort by owners compares them
pub tied_names : (a b : Labels) → (not (is_lt (name_cmp a b)) && not (is_lt (name_cmp b a))) ≡ name_eq b a
tied_names a b = by (name_cmp a b) refl where
  by : (o : Ordering) → name_cmp a b ≡ o → (not (is_lt (name_cmp a b)) && not (is_lt (name_cmp b a))) ≡ name_eq b a
  by Less e = rw e (sym (behind_differs b a e))
  by Equal e =
      let back : name_cmp b a ≡ Equal = names_total.antisymm b a ∙ ap ordering_reverse e in
      rw (e, back) (sym ((name_eq_decides b a).1 (sym (same_names a b e))))
  by Greater e =
      let back : name_cmp b a ≡ Less = names_total.antisymm b a ∙ ap ordering_reverse e in
      rw (e, back) (sym (before_differs b a back))

-- the records at or below the origin hold all data of a name there
pub data_within : (origin name : Labels) → is_prefix origin name ≡ true → (rrs : List Rr) → data_of (filter (λ rr. is_prefix origin rr.owner) rrs) name ≡ data_of rrs name
data_within origin name within [] = refl
data_within origin name within (rr ∷ rrs) = by (is_prefix origin rr.owner) refl (name_eq rr.owner name) refl (data_within origin name within rrs) where
  kept : List Rr
  kept = filter (λ r. is_prefix origin r.owner) rrs

  by : (b : Bool) → is_prefix origin rr.owner ≡ b → (own : Bool) → name_eq rr.owner name ≡ own → data_of kept name ≡ data_of rrs name
      → data_of (cond b (rr ∷ kept) kept) name ≡ data_of (rr ∷ rrs) name
  by true e true is rest = rw is (ap (λ (xs : List Rdata). rr.rdata ∷ xs) rest)
  by true e false is rest = rw is rest
  by false e true is rest =
      let owner : rr.owner ≡ name = (name_eq_decides rr.owner name).0 is in
      absurd (true≢false (sym within ∙ ap (is_prefix origin) (sym owner) ∙ e))
  by false e false is rest = rw is rest
