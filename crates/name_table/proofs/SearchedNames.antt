-- Where a name stands among names in order.
use Rattle.std.proofs.Common.{◌≡◌, ◌≢◌, ℕ, false, ◌+◌, ◌<◌, List, [], Contains, get_or, length, is_lt, Less, Equal, Greater, Result, Ok, Err, sym, ap, ◌∙◌, subst, inl, inr, arith}
use Rattle.std.specs.Result.{MatchResult}
use Rattle.std.specs.List.{AllWithin}
use Rattle.std.specs.List.Sorted.{IsSearchInRange, IsBinarySearchResult, IsSortedBy}
use Rattle.std.proofs.lemmas.Bool.{cases_lt}
use Rattle.std.proofs.lemmas.Cmp.{tied_itself}
use Rattle.std.proofs.lemmas.List.{get_or_default}
use Rattle.std.proofs.lemmas.List.Sorted.{searchable_from_sorted}
use Rattle.std.specs.Ordering.{ordering_reverse}
use Rattle.dns_data.specs.Name.{Labels, name_cmp, name_eq, AreInOrder}
use Rattle.dns_data.proofs.Names.{same_names}
use Rattle.dns_data.proofs.NameOrder.{Before, names_total, before_differs, behind_differs}

-- names in order rise
pub rises : (names : List Labels) → AreInOrder names → IsSortedBy (λ a b. is_lt (name_cmp a b)) names
rises names ordered = λ k d low high.
    ap is_lt (names_total.antisymm (get_or names (k + 1) d) (get_or names k d) ∙ ap ordering_reverse (ordered k (k + 1) d (omega arith) high))

-- a name that is read at a place is the one there
pub read_at : (names : List Labels) (place : ℕ) (name : Labels) → place < length names → name ≡ get_or names place name → name ≡ get_or names place []
read_at names place name within is = is ∙ get_or_default names place name [] within

-- a search among names in order finds the place of the name, or the name isn't among them
pub found_at : (names : List Labels) (name : Labels) (r : Result ℕ ℕ) → AreInOrder names → IsSearchInRange r (length names)
    → IsBinarySearchResult (λ (other : Labels). name_cmp other name) names r
    → MatchResult r (λ place. (place < length names) × (get_or names place [] ≡ name)) (λ _. Contains names name → ⊥)
found_at names name (Ok i) ordered below holds = (below, same_names (get_or names i []) name (holds []))
found_at names name (Err i) ordered within holds =
    let parts = holds (searchable_from_sorted names_total (λ (x : Labels). x) names name (rises names ordered)) in
    λ has.
    let is = has.2 in
    let tied : name_cmp name name ≡ Equal = tied_itself names_total name in
    elim (cases_lt has.0 i) [
      | inl lower ↦ (let less = subst (λ (x : Labels). name_cmp x name ≡ Less) is (parts.0 has.0 name (omega arith) lower) in absurd (less_not_equal (sym less ∙ tied)))
      | inr higher ↦ (let greater = subst (λ (x : Labels). name_cmp x name ≡ Greater) is (parts.1 has.0 name higher has.1) in absurd (greater_not_equal (sym greater ∙ tied)))
    ]
  where
    less_not_equal : Less ≡ Equal → ⊥
    less_not_equal e = cc

    greater_not_equal : Greater ≡ Equal → ⊥
    greater_not_equal e = cc

-- the name at a place isn't that at another
pub apart : (names : List Labels) (i j : ℕ) → AreInOrder names → i < length names → j < length names → (i ≡ j → ⊥)
    → name_eq (get_or names i []) (get_or names j []) ≡ false
apart names i j ordered first second other =
    elim (cases_lt i j) [
      | inl lower ↦ before_differs (get_or names i []) (get_or names j []) (ordered i j [] lower second)
      | inr higher ↦ behind_differs (get_or names i []) (get_or names j []) (ordered j i [] (let e : i ≢ j = other in omega arith) first)
    ]

-- ---- names on both sides of one

module _ (names : List Labels) (name : Labels) (middle : ℕ) (ordered : AreInOrder names) (within : middle < length names) where
  -- if the name at a place stands before a name, so do all names before that place
  pub all_before : name_cmp (get_or names middle []) name ≡ Less → AllWithin (λ other. name_cmp other name ≡ Less) names 0 (middle + 1)
  all_before less k d low high = elim (cases_lt k middle) [
    | inl lower ↦ (
        let first : Before (get_or names k d) (get_or names middle d) = ordered k middle d lower within in
        names_total.trans (get_or names k d) (get_or names middle d) name first
        (ap (λ (x : Labels). name_cmp x name) (sym (get_or_default names middle [] d within)) ∙ less))
    | inr last ↦ (
        let same : middle ≡ k = omega (arith, last, high) in
        ap (λ (x : Labels). name_cmp x name) (sym (get_or_default names k [] d (omega (arith, same, within))) ∙ ap (λ (n : ℕ). get_or names n []) (sym same)) ∙ less)
  ]

  -- if the name at a place stands behind a name, so do all names behind that place
  pub all_behind : name_cmp (get_or names middle []) name ≡ Greater → AllWithin (λ other. name_cmp other name ≡ Greater) names middle (length names)
  all_behind greater k d low high = elim (cases_lt middle k) [
    | inl higher ↦ (
        let back : Before name (get_or names middle d) =
        names_total.antisymm name (get_or names middle d)
        ∙ ap ordering_reverse (ap (λ (x : Labels). name_cmp x name) (sym (get_or_default names middle [] d within)) ∙ greater) in
        names_total.antisymm (get_or names k d) name
        ∙ ap ordering_reverse (names_total.trans name (get_or names middle d) (get_or names k d) back (ordered middle k d higher high)))
    | inr first ↦ (
        let same : middle ≡ k = omega (arith, first, low) in
        ap (λ (x : Labels). name_cmp x name) (sym (get_or_default names k [] d high) ∙ ap (λ (n : ℕ). get_or names n []) (sym same)) ∙ greater)
  ]
