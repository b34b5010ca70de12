-- Of several items with one name the first, in a map that is filled from the last item to the first, and in a list in the
-- order of names.
use Rattle.std.proofs.Common.{◌≡◌, ℕ, zero, suc, ◌+◌, ◌-◌, ◌<◌, ◌≤◌, Bool, true, false, cond, List, [], ◌∷◌, map, length, drop, get_or, Option, Some, None, Result, Ok, Err, find, Bor, Ordering, Less, Equal, Greater, is_eq, is_lt, sym, refl, ap, ◌∙◌, subst, inl, inr, arith}
use Rattle.std.specs.BTreeMap.{BTreeMap, insert_entry, Updates}
use Rattle.std.specs.Cmp.Lexicographic.{lists_ties, texts_ties, lists_equiv, nat_list_eq_equiv}
use Rattle.std.specs.List.{AllByRecursion}
use Rattle.std.specs.List.Sorted.{IsStrictlySortedBy, IsSearchInRange, IsBinarySearchResult, IsSortedBy}
use Rattle.std.specs.Map.{lookup, keys_of, values_of}
use Rattle.std.specs.Option.{option_map}
use Rattle.std.specs.Ordering.{match_ordering, ordering_reverse}
use Rattle.std.specs.Result.{MatchResult}
use Rattle.std.proofs.lemmas.Bool.{cases_lt}
use Rattle.std.proofs.lemmas.List.{drop_more, get_or-map, length-map}
use Rattle.std.proofs.lemmas.List.Sorted.{searchable_from_sorted}
use Rattle.std.proofs.lemmas.Map.Keys.{sorted_tail}
use Rattle.std.proofs.lemmas.Map.Views.{All-after_first}
use Rattle.dns_data.specs.Label.{label_cmp}
use Rattle.dns_data.specs.Name.{Labels, name_eq, name_cmp}
use Rattle.dns_data.proofs.NameOrder.{names_total, before_differs, before_later, behind_differs}
use Rattle.dns_data.proofs.Names.{same_names, name_eq_decides}
use Rattle.dns_data.proofs.Searches.{find_none}
use Rattle.zone_lookup.specs.Firsts.{AreFirstsByName, FindsFirsts}

-- the order of borrowed names
abbrev pub borrowed_cmp : Bor Labels → Bor Labels → Ordering
borrowed_cmp a b = name_cmp a.now b.now

-- the test of a name against a key, either way round
same_test : (key name : Labels) → name_eq key name ≡ is_eq (name_cmp name key)
same_test key name = (lists_equiv nat_list_eq_equiv).symm key name ∙ lists_ties label_cmp texts_ties name key

-- a borrowed name that stands before others stands so as what it borrows
all_rise : (key : Bor Labels) (keys : List (Bor Labels)) → AllByRecursion (λ (other : Bor Labels). borrowed_cmp key other ≡ Less) keys
    → AllByRecursion (λ (other : Labels). name_cmp key.now other ≡ Less) (map (λ (k : Bor Labels). k.now) keys)
all_rise key [] rise = tt
all_rise key (other ∷ keys) rise = (rise.0, all_rise key keys rise.1)

-- the names of keys in order are in order
pub names_rise : (keys : List (Bor Labels)) → IsStrictlySortedBy borrowed_cmp keys → IsStrictlySortedBy name_cmp (map (λ (k : Bor Labels). k.now) keys)
unfolding IsStrictlySortedBy
names_rise [] sorted = tt
names_rise (key ∷ keys) sorted = (all_rise key keys sorted.0, names_rise keys sorted.1)

-- the item before a place, and those from that place on
pub from_before : {Y : Type 0} (all : List Y) (left : ℕ) (item : Y) → 0 < left → left ≤ length all → item ≡ get_or all (left - 1) item
    → drop (left - 1) all ≡ item ∷ drop left all
from_before all left item some within is =
    let up : (left - 1) + 1 ≡ left = omega arith in
    drop_more all (left - 1) item (omega arith) ∙ ap (λ y. y ∷ drop ((left - 1) + 1) all) (sym is) ∙ ap (λ (n : ℕ). item ∷ drop n all) up

module _ {X Y : Type 0} (tell : X → Y) (name_of : Y → Labels) where
  abbrev IsKeyed : Bor Labels × X → Type 0
  IsKeyed entry = entry.0.now ≡ name_of (tell entry.1)

  -- an item that is put stands under its name
  keyed_put : (key : Bor Labels) (x : X) (entries : List (Bor Labels × X)) → key.now ≡ name_of (tell x) → AllByRecursion IsKeyed entries
      → AllByRecursion IsKeyed (insert_entry borrowed_cmp entries key x)
  keyed_put key x [] is keyed = (is, tt)
  keyed_put key x (entry ∷ entries) is keyed =
      by (name_cmp key.now entry.0.now) refl (keyed_put key x entries is keyed.1)
    where
      by : (o : Ordering) → name_cmp key.now entry.0.now ≡ o → AllByRecursion IsKeyed (insert_entry borrowed_cmp entries key x)
          → AllByRecursion IsKeyed (match_ordering o ((key, x) ∷ entry ∷ entries) ((entry.0, x) ∷ entries) (entry ∷ insert_entry borrowed_cmp entries key x))
      by Less e rest = (is, keyed)
      by Equal e rest = (sym (same_names key.now entry.0.now e) ∙ is, keyed.1)
      by Greater e rest = (keyed.0, rest)

  -- a map with one more item finds the first of one more
  put_first : (all : List Y) (old new : BTreeMap (Bor Labels) X) (key : Bor Labels) (x : X) → key.now ≡ name_of (tell x)
      → FindsFirsts tell name_of all old → new.entries ≡ insert_entry borrowed_cmp old.entries key x → Updates borrowed_cmp old new key (Some x)
      → FindsFirsts tell name_of (tell x ∷ all) new
  put_first all old new key x is finds entries updates =
      record {
        keyed = subst (AllByRecursion IsKeyed) (sym entries) (keyed_put key x old.entries is finds.keyed);
        firsts = λ name.
            ap (option_map tell) (updates.0 (record { ref_ptr = (0, 0); now = name }))
            ∙ by name (is_eq (name_cmp key.now name)) (ap (λ (k : Labels). name_eq k name) (sym is) ∙ lists_ties label_cmp texts_ties key.now name);
      }
    where
      by : (name : Labels) (b : Bool) → name_eq (name_of (tell x)) name ≡ b
          → option_map tell (cond b (Some x) (lookup (λ key. is_eq (name_cmp name key.now)) old.entries))
          ≡ find (λ (one : Y). name_eq (name_of one) name) (tell x ∷ all)
      by name true e = sym (ap (λ (b : Bool). cond b (Some (tell x)) (find (λ (one : Y). name_eq (name_of one) name) all)) e)
      by name false e =
          finds.firsts name ∙ sym (ap (λ (b : Bool). cond b (Some (tell x)) (find (λ (one : Y). name_eq (name_of one) name) all)) e)

  -- a map of the first items by name, with the item before a place put in, finds the first items from that place on
  pub put_before : (all : List Y) (left : ℕ) (item : Y) (key : Bor Labels) (x : X) (old new : BTreeMap (Bor Labels) X) → 0 < left → left ≤ length all
      → item ≡ get_or all (left - 1) item → tell x ≡ item → key.now ≡ name_of item → FindsFirsts tell name_of (drop left all) old
      → new.entries ≡ insert_entry borrowed_cmp old.entries key x → Updates borrowed_cmp old new key (Some x)
      → FindsFirsts tell name_of (drop (left - 1) all) new
  put_before all left item key x old new some within is told keyed finds entries updates =
      subst (λ (ys : List Y). FindsFirsts tell name_of ys new) (sym (from_before all left item some within is))
      (subst (λ (y : Y). FindsFirsts tell name_of (y ∷ drop left all) new) told
      (put_first (drop left all) old new key x (keyed ∙ ap name_of (sym told)) finds entries updates))

  -- ---- the values of a map

  names_are_keys : (entries : List (Bor Labels × X)) → AllByRecursion IsKeyed entries
      → map (λ (x : X). name_of (tell x)) (values_of entries) ≡ map (λ (key : Bor Labels). key.now) (keys_of entries)
  names_are_keys [] keyed = refl
  names_are_keys (entry ∷ entries) keyed =
      ap (λ (name : Labels). name ∷ map (λ (x : X). name_of (tell x)) (values_of entries)) (sym keyed.0)
      ∙ ap (λ (names : List Labels). entry.0.now ∷ names) (names_are_keys entries keyed.1)

  found_as_key : (name : Labels) (entries : List (Bor Labels × X)) → AllByRecursion IsKeyed entries
      → find (λ (x : X). name_eq (name_of (tell x)) name) (values_of entries) ≡ lookup (λ key. is_eq (name_cmp name key.now)) entries
  found_as_key name [] keyed = refl
  found_as_key name (entry ∷ entries) keyed =
      ap (λ (b : Bool). cond b (Some entry.1) (find (λ (x : X). name_eq (name_of (tell x)) name) (values_of entries)))
      (ap (λ (k : Labels). name_eq k name) (sym keyed.0) ∙ same_test entry.0.now name)
      ∙ ap (λ (o : Option X). cond (is_eq (name_cmp name entry.0.now)) (Some entry.1) o) (found_as_key name entries keyed.1)

  -- the values of a map that finds the first items by name are those items, in the order of names
  pub values_are : (all : List Y) (items : BTreeMap (Bor Labels) X) (values : List X) → FindsFirsts tell name_of all items
      → IsStrictlySortedBy borrowed_cmp (keys_of items.entries) → values ≡ values_of items.entries → AreFirstsByName tell name_of all values
  values_are all items values finds sorted are =
      subst (AreFirstsByName tell name_of all) (sym are)
      (record {
        ordered = subst (IsStrictlySortedBy name_cmp) (sym (names_are_keys items.entries finds.keyed)) (names_rise (keys_of items.entries) sorted);
        firsts = λ name. ap (option_map tell) (found_as_key name items.entries finds.keyed) ∙ finds.firsts name;
      })

-- ---- a search in a list in the order of names

module _ {X : Type 0} (key : X → Labels) (name : Labels) where
  abbrev has_name : X → Bool
  has_name x = name_eq (key x) name

  -- of items in the order of names, one with the name is what a search finds
  pub found_in_order : (xs : List X) (place : ℕ) (d : X) → IsStrictlySortedBy name_cmp (map key xs) → place < length xs → key (get_or xs place d) ≡ name
      → find has_name xs ≡ Some (get_or xs place d)
  found_in_order [] place d sorted below is = absurd (omega arith)
  found_in_order (x ∷ xs) zero d sorted below is = ap (λ (b : Bool). cond b (Some x) (find has_name xs)) ((name_eq_decides (key x) name).1 is)
  found_in_order (x ∷ xs) (suc place) d sorted below is =
      let within : place < length xs = omega arith in
      let names : get_or (map key xs) place [] ≡ key (get_or xs place d) = get_or-map key xs place d [] within in
      let less : name_cmp (key x) name ≡ Less =
      ap (name_cmp (key x)) (sym is ∙ sym names) ∙ All-after_first name_cmp (key x) (map key xs) sorted place [] (omega (arith, length-map xs key)) in
      ap (λ (b : Bool). cond b (Some x) (find has_name xs)) (before_differs (key x) name less)
      ∙ found_in_order xs place d (sorted_tail name_cmp (key x) (map key xs) sorted) within is

  -- items whose names rise are sorted by their names
  pub rises : (xs : List X) → IsStrictlySortedBy name_cmp (map key xs) → IsSortedBy (λ a b. is_lt (name_cmp (key a) (key b))) xs
  rises xs sorted = λ k d low high.
      let less : name_cmp (key (get_or xs k d)) (key (get_or xs (k + 1) d)) ≡ Less =
      ap (λ (a : Labels). name_cmp a (key (get_or xs (k + 1) d))) (sym (get_or-map key xs k d [] (omega arith)))
      ∙ ap (name_cmp (get_or (map key xs) k [])) (sym (get_or-map key xs (k + 1) d [] high))
      ∙ ap (λ (n : ℕ). name_cmp (get_or (map key xs) k []) (get_or (map key xs) n [])) (let e : k + 1 ≡ suc k = omega arith in e)
      ∙ before_later (map key xs) sorted k (suc k) [] (omega arith) (omega (arith, length-map xs key)) in
      ap is_lt (names_total.antisymm (key (get_or xs (k + 1) d)) (key (get_or xs k d)) ∙ ap ordering_reverse less)

  -- what a binary search finds is what a search finds
  pub found_by : (xs : List X) (r : Result ℕ ℕ) → IsStrictlySortedBy name_cmp (map key xs) → IsSearchInRange r (length xs)
      → IsBinarySearchResult (λ (x : X). name_cmp (key x) name) xs r
      → MatchResult r (λ place. (d : X) → find has_name xs ≡ Some (get_or xs place d)) (λ _. find has_name xs ≡ None)
  found_by xs (Ok place) sorted below holds =
      λ d. found_in_order xs place d sorted below (same_names (key (get_or xs place d)) name (holds d))
  found_by xs (Err place) sorted within holds =
      let parts = holds (searchable_from_sorted names_total key xs name (rises xs sorted)) in
      find_none has_name xs
      (λ x has. elim (cases_lt has.0 place) [
        | inl lower ↦ before_differs (key x) name (subst (λ (y : X). name_cmp (key y) name ≡ Less) has.2 (parts.0 has.0 x (omega arith) lower))
        | inr higher ↦ behind_differs (key x) name
            (names_total.antisymm name (key x) ∙ ap ordering_reverse (subst (λ (y : X). name_cmp (key y) name ≡ Greater) has.2 (parts.1 has.0 x higher has.1)))
      ])

-- what is found behind a reference tells what is found
pub told : {X Y : Type 0} (tell : X → Y) (r : Option (Bor X)) (found : Option X) → option_map (λ (x : Bor X). x.now) r ≡ found
    → option_map (λ (x : Bor X). tell x.now) r ≡ option_map tell found
told tell None found e = ap (option_map tell) e
told tell (Some x) found e = ap (option_map tell) e
