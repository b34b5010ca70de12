-- Where a search for a front of a name among names in order finds nothing, what the name before its place tells of the
-- shorter fronts.
use Rattle.std.proofs.Common.{◌≡◌, ℕ, ◌+◌, ◌-◌, ◌<◌, ◌≤◌, Bool, true, false, List, [], ◌++◌, map, length, take, drop, get_or, Option, Some, Err, find, Less, Greater, is_gt, is_some, sym, refl, ap, ◌∙◌, subst, inl, inr, true≢false, arith}
use Rattle.std.specs.List.{common_prefix_len}
use Rattle.std.specs.List.Sorted.{IsStrictlySortedBy, IsPartitionPoint, IsBinarySearchResult}
use Rattle.std.proofs.lemmas.Bool.{cases_lt}
use Rattle.std.proofs.lemmas.List.{append-nil, take-append-drop, take-take, take_all, length-take-le, get_or-map, get_or_default, length-map}
use Rattle.std.proofs.lemmas.Cmp.{tied_itself}
use Rattle.std.proofs.lemmas.List.Sums.{common_prefix_len-le}
use Rattle.std.proofs.lemmas.List.Sorted.{searchable_from_sorted}
use Rattle.dns_data.specs.Label.{label_eq}
use Rattle.dns_data.specs.Name.{Labels, is_prefix, name_eq, name_cmp}
use Rattle.dns_data.proofs.CommonFronts.{both_begin, common_front, shared_front}
use Rattle.dns_data.proofs.NameFronts.{is_prefix_tells}
use Rattle.dns_data.proofs.NameOrder.{UpTo, Before, names_total, prefix_up_to, before_up_to, between, before_later}
use Rattle.dns_data.proofs.Names.{name_eq_decides}
use Rattle.dns_data.proofs.Searches.{find_none}
use Rattle.dns_data.proofs.OrderedLists.{never_before_itself}
use Rattle.zone_lookup.proofs.FirstsByName.{found_in_order, rises}

-- a name that begins another has all its labels in common with it
pub all_common : (above name : Labels) → is_prefix above name ≡ true → common_prefix_len label_eq above name ≡ length above
all_common above name begins =
    omega (arith, both_begin above above name ([], append-nil above) (is_prefix_tells above name begins), (common_prefix_len-le label_eq above name).0)

module _ {X : Type 0} (key : X → Labels) (xs : List X) (sorted : IsStrictlySortedBy name_cmp (map key xs)) (name : Labels) (count : ℕ) (within : count ≤ length name) where
  abbrev found : Labels → Option X
  found origin = find (λ (x : X). name_eq (key x) origin) xs

  module _ (place : ℕ) (in_range : place ≤ length xs) (holds : IsBinarySearchResult (λ (x : X). name_cmp (key x) (take count name)) xs (Err place)) where
    parts : IsPartitionPoint (λ (x : X). name_cmp (key x) (take count name) ≡ Less) (λ (x : X). name_cmp (key x) (take count name) ≡ Greater) xs place
    parts = holds (searchable_from_sorted names_total key xs (take count name) (rises key (take count name) xs sorted))

    -- an item under a front with at most so many labels stands before the place
    not_after : (k i : ℕ) (x : X) → k ≤ count → place ≤ i → i < length xs → key (get_or xs i x) ≡ take k name → ⊥
    not_after k i x few higher below is =
        let whole : take k name ++ drop k (take count name) ≡ take count name =
        ap (λ (n : Labels). n ++ drop k (take count name)) (sym (take-take k count name few)) ∙ take-append-drop k (take count name) in
        let up : UpTo (take k name) (take count name) = subst (UpTo (take k name)) whole (prefix_up_to (take k name) (drop k (take count name))) in
        let greater : name_cmp (take k name) (take count name) ≡ Greater =
        subst (λ (n : Labels). name_cmp n (take count name) ≡ Greater) is (parts.1 i x higher below) in
        true≢false (sym (ap is_gt greater) ∙ up)

    none_by : (fewer : ℕ) → ((k i : ℕ) (x : X) → fewer ≤ k → k ≤ count → i < place → key (get_or xs i x) ≡ take k name → ⊥)
        → (k : ℕ) → fewer ≤ k → k ≤ count → is_some (found (take k name)) ≡ false
    none_by fewer not_before k many few =
        ap is_some (find_none (λ (x : X). name_eq (key x) (take k name)) xs (λ x has. by k many few x has.0 has.1 has.2 (name_eq (key x) (take k name)) refl))
      where
        by : (k : ℕ) → fewer ≤ k → k ≤ count → (x : X) (i : ℕ) → i < length xs → get_or xs i x ≡ x → (t : Bool) → name_eq (key x) (take k name) ≡ t → t ≡ false
        by k many few x i below is false e = refl
        by k many few x i below is true e =
            let named : key (get_or xs i x) ≡ take k name = ap key is ∙ (name_eq_decides (key x) (take k name)).0 e in
            elim (cases_lt i place) [
              | inl lower ↦ absurd (not_before k i x many few lower named)
              | inr higher ↦ absurd (not_after k i x few higher below named)
            ]

    -- if no item stands before the place of a search, no front of the name is an item's name
    pub none_before : place ≡ 0 → (k : ℕ) → 0 ≤ k → k ≤ count → is_some (found (take k name)) ≡ false
    none_before first = none_by 0 (λ k i x many few lower named. absurd (omega (arith, first)))

    module _ (last : X) (some : 0 < place) (is_last : last ≡ get_or xs (place - 1) last) where
      abbrev common : ℕ
      common = common_prefix_len label_eq (key last) name

      less : Before (key last) (take count name)
      less = subst (λ (x : X). name_cmp (key x) (take count name) ≡ Less) (sym is_last) (parts.0 (place - 1) last (omega arith) (omega arith))

      -- the item before the place of a search doesn't have the whole front in common with the name
      pub fewer : common < count
      fewer = elim (cases_lt common count) [
        | inl lower ↦ lower
        | inr higher ↦ (
            let whole : take count name ++ drop count (key last) ≡ key last =
            ap (λ (n : Labels). n ++ drop count (key last)) (sym (common_front count (key last) name higher)) ∙ take-append-drop count (key last) in
            let up : UpTo (take count name) (key last) = subst (UpTo (take count name)) whole (prefix_up_to (take count name) (drop count (key last))) in
            absurd (never_before_itself name_cmp names_total (key last) (before_up_to (key last) (take count name) (key last) less up)))
      ]

      up_to_last : (i : ℕ) (x : X) → i < place → UpTo (key (get_or xs i x)) (key last)
      up_to_last i x lower = elim (cases_lt i (place - 1)) [
        | inl before ↦ ap is_gt (
            ap (λ (a : Labels). name_cmp a (key last)) (sym (get_or-map key xs i x [] (omega arith)))
            ∙ ap (λ (a : Labels). name_cmp (get_or (map key xs) i []) a) (ap key is_last ∙ sym (get_or-map key xs (place - 1) last [] (omega arith)))
            ∙ before_later (map key xs) sorted i (place - 1) [] before (omega (arith, length-map xs key)))
        | inr same ↦ (
            let here : i ≡ place - 1 = omega (arith, lower, same) in
            let is : get_or xs i x ≡ last = ap (λ (n : ℕ). get_or xs n x) here ∙ get_or_default xs (place - 1) x last (omega arith) ∙ sym is_last in
            ap is_gt (ap (λ (y : X). name_cmp (key y) (key last)) is ∙ tied_itself names_total (key last)))
      ]

      not_before : (k i : ℕ) (x : X) → common + 1 ≤ k → k ≤ count → i < place → key (get_or xs i x) ≡ take k name → ⊥
      not_before k i x many few lower named =
          let whole : take k name ++ drop k (take count name) ≡ take count name =
          ap (λ (n : Labels). n ++ drop k (take count name)) (sym (take-take k count name few)) ∙ take-append-drop k (take count name) in
          let begins = between (take k name) (key last) (drop k (take count name)) (subst (λ (n : Labels). UpTo n (key last)) named (up_to_last i x lower))
          (ap is_gt (ap (name_cmp (key last)) whole ∙ less)) in
          let shares : length (take k name) ≤ common =
          subst (λ (n : Labels). length (take k name) ≤ common_prefix_len label_eq n name) begins.1
          (subst (λ (n : Labels). length (take k name) ≤ common_prefix_len label_eq (take k name ++ begins.0) n) (take-append-drop k name)
          (shared_front (take k name) begins.0 (drop k name))) in
          let long : length (take k name) ≡ k = length-take-le k name (omega arith) in
          absurd (omega arith)

      -- no front with more labels than the item before the place has in common with the name is an item's name
      pub none_longer : (k : ℕ) → common + 1 ≤ k → k ≤ count → is_some (found (take k name)) ≡ false
      none_longer = none_by (common + 1) not_before

      -- the item before the place is the one at a front of the name, if it has all its labels in common with the name
      pub itself : common ≡ length (key last) → found (take common name) ≡ Some last
      itself all =
          let front : key last ≡ take common name =
          sym (take_all common (key last) (omega arith)) ∙ common_front common (key last) name (omega arith) in
          found_in_order key (take common name) xs (place - 1) last sorted (omega arith) (ap key (sym is_last) ∙ front) ∙ ap (λ (x : X). Some x) (sym is_last)
