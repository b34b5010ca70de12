-- An item at or above a name, where the next one stands behind that name.
use Rattle.std.proofs.Common.{◌≡◌, ℕ, ◌+◌, ◌-◌, ◌<◌, ◌≤◌, true, false, List, map, length, take, get_or, Some, Err, Ordering, Less, Equal, Greater, is_gt, sym, refl, ap, ◌∙◌, subst, inl, inr, length-append, arith}
use Rattle.std.specs.List.{HoldsAt}
use Rattle.std.specs.List.Sorted.{IsStrictlySortedBy, IsBinarySearchResult}
use Rattle.std.proofs.lemmas.Bool.{cases_lt}
use Rattle.std.proofs.lemmas.List.{get_or_default, take_all}
use Rattle.dns_data.specs.Name.{Labels, is_prefix, name_cmp}
use Rattle.dns_data.proofs.NameFronts.{Begins, front_is_take, is_prefix_tells}
use Rattle.dns_data.proofs.NameOrder.{UpTo, prefix_up_to}
use Rattle.dns_data.proofs.Names.{same_names}
use Rattle.zone_lookup.specs.Named.{item_named, IsAtLongest}
use Rattle.zone_lookup.proofs.FirstsByName.{found_in_order}
use Rattle.zone_lookup.proofs.OriginsBefore.{all_common, none_longer}
use Rattle.zone_lookup.proofs.PlacesNear.{behind_last, between_two}

-- what neither stands behind nor is the same stands before
only_less : (o : Ordering) → is_gt o ≡ false → (o ≡ Equal → ⊥) → o ≡ Less
only_less Less low differs = refl
only_less Equal low differs = absurd (differs refl)
only_less Greater low differs = cc

module _ {X : Type 0} (key : X → Labels) (xs : List X) (sorted : IsStrictlySortedBy name_cmp (map key xs)) (name : Labels) (near : ℕ) (item : X)
    (within : near < length xs) (is : item ≡ get_or xs near item) (inside : is_prefix (key item) name ≡ true)
    (past : near + 1 < length xs → HoldsAt (λ x. name_cmp (key x) name ≡ Greater) xs (near + 1)) where
  begins : Begins (key item) name
  begins = is_prefix_tells (key item) name inside

  short : length (key item) ≤ length name
  short = omega (arith, length-append (key item) begins.0, ap (λ (n : Labels). length n) begins.1)

  there : item_named key xs (take (length (key item)) name) ≡ Some item
  there =
      found_in_order key (take (length (key item)) name) xs near item sorted within
      (ap key (sym is) ∙ sym (front_is_take (key item) begins.0 name begins.1)) ∙ ap (λ (x : X). Some x) (sym is)

  module _ (fewer : length (key item) < length name) where
    less : name_cmp (key item) name ≡ Less
    less =
        only_less (name_cmp (key item) name) (subst (UpTo (key item)) begins.1 (prefix_up_to (key item) begins.0))
        (λ tied. omega (arith, fewer, ap (λ (n : Labels). length n) (same_names (key item) name tied)))

    stands : HoldsAt (λ x. name_cmp (key x) name ≡ Less) xs near
    stands = λ d. ap (λ (x : X). name_cmp (key x) name) (get_or_default xs near d item within ∙ sym is) ∙ less

    -- the name's place is right behind the item
    position : IsBinarySearchResult (λ x. name_cmp (key x) (take (length name) name)) xs (Err (near + 1))
    position =
        subst (λ (n : Labels). IsBinarySearchResult (λ x. name_cmp (key x) n) xs (Err (near + 1))) (sym (take_all (length name) name (omega arith)))
        (elim (cases_lt (near + 1) (length xs)) [
          | inl more ↦ between_two (λ x. name_cmp (key x) name) xs near within stands (past more)
          | inr last ↦ behind_last (λ x. name_cmp (key x) name) xs near within stands last
        ])

  -- the item is that of the longest name at or above the other
  pub nearest_here : IsAtLongest (item_named key xs) name (length name) item
  nearest_here = record {
    labels = length (key item);
    within = short;
    there = there;
    none_longer = λ k many few. elim (cases_lt (length (key item)) (length name)) [
      | inl fewer ↦ none_longer key xs sorted name (length name) (omega arith) (near + 1) (omega (arith, within)) (position fewer) item (omega arith)
          (is ∙ ap (λ (n : ℕ). get_or xs n item) (let e : near ≡ near + 1 - 1 = omega arith in e)) k (omega (arith, all_common (key item) name inside, many)) few
      | inr all ↦ absurd (omega (arith, many, few, all))
    ];
  }
