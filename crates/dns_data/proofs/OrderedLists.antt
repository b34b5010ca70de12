-- Orders that tell all items apart, and lists in which each item stands before the later ones: such a list is told by
-- the items that it has.
use Rattle.std.proofs.Common.{◌≡◌, ◌≢◌, List, [], ◌∷◌, Contains, AllPairs, Ordering, Less, Equal, Greater, sym, refl, ap, ◌∙◌, subst, inl, inr}
use Rattle.std.specs.Cmp.{IsTotalOrder}
use Rattle.std.specs.Cmp.Lexicographic.{slice_cmp}
use Rattle.std.specs.Ordering.{ordering_reverse, ordering_then}
use Rattle.std.proofs.lemmas.Cmp.{tied_itself}
use Rattle.std.proofs.lemmas.Map.Lookups.{CmpEqualImpliesEq}
use Rattle.dns_data.proofs.Membership.{none_in_nil, has_first, has_later, first_or_later, pairs_first, pairs_rest}

-- ---- orders

-- if two comparisons in a row find no difference, neither does
pub both_tie : (o p : Ordering) → ordering_then o p ≡ Equal → (o ≡ Equal) × (p ≡ Equal)
both_tie Less p e = (cc, cc)
both_tie Equal p e = (refl, e)
both_tie Greater p e = (cc, cc)

-- an order that tells items apart tells lists of them apart
pub exact_lists : {X : Type 0} (R : X → X → Ordering) → CmpEqualImpliesEq R → CmpEqualImpliesEq (slice_cmp R)
exact_lists R exact [] [] e = refl
exact_lists R exact [] (y ∷ ys) e = cc
exact_lists R exact (x ∷ xs) [] e = cc
exact_lists R exact (x ∷ xs) (y ∷ ys) e =
    let ties = both_tie (R x y) (slice_cmp R xs ys) e in
    let first : x ≡ y = exact x y ties.0 in
    let rest : xs ≡ ys = exact_lists R exact xs ys ties.1 in
    cc

module _ {X : Type 0} (R : X → X → Ordering) (o : IsTotalOrder R) where
  -- items of which neither stands before the other are equal
  pub neither_before : CmpEqualImpliesEq R → (x y : X) → R x y ≢ Less → R y x ≢ Less → x ≡ y
  neither_before exact x y later earlier = by (R x y) refl where
    by : (found : Ordering) → R x y ≡ found → x ≡ y
    by Less e = absurd (later e)
    by Equal e = exact x y e
    by Greater e = absurd (earlier (o.antisymm y x ∙ ap ordering_reverse e))

  -- no two items stand before each other
  never_both : (x y : X) → R x y ≡ Less → R y x ≡ Less → ⊥
  never_both x y before behind =
      let around : R x x ≡ Less = o.trans x y x before behind in
      let tied : R x x ≡ Equal = tied_itself o x in
      cc

  -- no item stands before itself
  pub never_before_itself : (x : X) → R x x ≡ Less → ⊥
  never_before_itself x before = never_both x x before before

  -- ---- lists

  -- each item stands before the later ones
  abbrev pub IsRising : List X → Type 0
  IsRising xs = AllPairs (λ a b. R a b ≡ Less) xs

  -- the first item stands before the later ones
  first_before : (x : X) (xs : List X) → IsRising (x ∷ xs) → (later : X) → Contains xs later → R x later ≡ Less
  first_before = pairs_first (λ a b. R a b ≡ Less)

  rest_rising : (x : X) (xs : List X) → IsRising (x ∷ xs) → IsRising xs
  rest_rising = pairs_rest (λ a b. R a b ≡ Less)

  -- the first items of two rising lists are one, if each list has the other's
  same_first : (x : X) (xs : List X) (y : X) (ys : List X) → IsRising (x ∷ xs) → IsRising (y ∷ ys)
      → Contains (y ∷ ys) x → Contains (x ∷ xs) y → x ≡ y
  same_first x xs y ys first second has back =
      elim (first_or_later y ys x has) [
        | inl same ↦ sym same
        | inr behind ↦ elim (first_or_later x xs y back) [
          | inl same ↦ same
          | inr before ↦ absurd (never_both x y (first_before x xs first y before) (first_before y ys second x behind))
        ]
      ]

  -- and then what one has behind it the other has too
  rest_has : (x : X) (xs : List X) (y : X) (ys : List X) → IsRising (x ∷ xs) → x ≡ y
      → ((item : X) → Contains (x ∷ xs) item → Contains (y ∷ ys) item) → (item : X) → Contains xs item → Contains ys item
  rest_has x xs y ys rising same has item later =
      elim (first_or_later y ys item (has item (has_later x xs item later))) [
        | inl first ↦ (
            let before : R x item ≡ Less = first_before x xs rising item later in
            let here : R x x ≡ Less = subst (λ (z : X). R x z ≡ Less) (sym (same ∙ first)) before in
            absurd (never_before_itself x here))
        | inr behind ↦ behind
      ]

  -- two rising lists with the same items are equal
  pub same_rising : (xs ys : List X) → IsRising xs → IsRising ys
      → ((item : X) → Contains xs item → Contains ys item) → ((item : X) → Contains ys item → Contains xs item) → xs ≡ ys
  same_rising [] [] first second has back = refl
  same_rising [] (y ∷ ys) first second has back = absurd (none_in_nil y (back y (has_first y ys)))
  same_rising (x ∷ xs) [] first second has back = absurd (none_in_nil x (has x (has_first x xs)))
  same_rising (x ∷ xs) (y ∷ ys) first second has back =
      let same : x ≡ y = same_first x xs y ys first second (has x (has_first x xs)) (back y (has_first y ys)) in
      let rest : xs ≡ ys =
      same_rising xs ys (rest_rising x xs first) (rest_rising y ys second)
      (rest_has x xs y ys first same has) (rest_has y ys x xs second (sym same) back) in
      cc
