-- Items that don't fall, of which no two share a key, rise; and of items that rise no two share one.
use Rattle.std.proofs.Common.{◌≡◌, ◌∙◌, ℕ, ◌<◌, false, List, map, length, get_or, Contains, AllPairs, Some, refl, sym, ap, inl, inr, arith, true≢false}
use Rattle.std.specs.Prelude.{slice_get}
use Rattle.std.specs.Cmp.{IsTotalOrder}
use Rattle.std.specs.List.Sorted.{IsSortedBy}
use Rattle.std.specs.Ordering.{is_lt, ordering_reverse}
use Rattle.std.specs.declared.cmp.Ordering.{Ordering}
use Rattle.std.specs.declared.cmp.Ordering.TheVariants.{Less, Equal, Greater}
use Rattle.std.proofs.lemmas.Bool.{cases_lt}
use Rattle.std.proofs.lemmas.Cmp.{tied_itself}
use Rattle.std.proofs.lemmas.List.{length-map, get_or-map, get_or_default}
use Rattle.std.proofs.lemmas.List.Sorted.{ranks_by, sorted_far}
use Rattle.std.proofs.lemmas.Map.Lookups.{CmpEqualImpliesEq}
use Rattle.std.proofs.lemmas.Option.{slice_get-get_or, slice_get_within, get_or_from_slice_get}
use Rattle.interp_graph.proofs.ItemsByNumber.{from_mapped}
use Rattle.verdict_book.specs.Items.{NoneTwice}

module _ {X K : Type 0} (key : X → K) (cmp : K → K → Ordering) (total : IsTotalOrder cmp) (exact : CmpEqualImpliesEq cmp) (xs : List X) where
  -- the key of each item is less than those of all later items
  abbrev pub Rises : Type 0
  Rises = AllPairs (λ a b. cmp (key a) (key b) ≡ Less) xs

  key_at : (k : ℕ) (d : X) → k < length xs → slice_get (map key xs) k ≡ Some (key (get_or xs k d))
  key_at k d within =
      slice_get-get_or (map key xs) k (key d) (omega (arith, length-map xs key)) ∙ ap (λ (one : K). Some one) (get_or-map key xs k d (key d) within)

  -- items that are sorted by their keys, none of which comes twice, rise
  pub rises : IsSortedBy (λ a b. is_lt (cmp (key a) (key b))) xs → NoneTwice (map key xs) → Rises
  rises sorted once i j d less within = by (cmp (key (get_or xs i d)) (key (get_or xs j d))) refl where
    not_less : is_lt (cmp (key (get_or xs j d)) (key (get_or xs i d))) ≡ false
    not_less = sorted_far (λ (a b : X). is_lt (cmp (key a) (key b))) (ranks_by total key) xs sorted i j d (omega arith) within

    by : (o : Ordering) → cmp (key (get_or xs i d)) (key (get_or xs j d)) ≡ o → cmp (key (get_or xs i d)) (key (get_or xs j d)) ≡ Less
    by Less e = e
    by Equal e =
        let same : key (get_or xs i d) ≡ key (get_or xs j d) = exact (key (get_or xs i d)) (key (get_or xs j d)) e in
        let equal : i ≡ j = once i j (key (get_or xs j d)) (key_at i d (omega arith) ∙ ap (λ (one : K). Some one) same) (key_at j d within) in
        absurd (omega arith)
    by Greater e =
        absurd (true≢false (sym (ap is_lt (total.antisymm (key (get_or xs j d)) (key (get_or xs i d)) ∙ ap ordering_reverse e)) ∙ not_less))

  -- of items that rise no key comes twice
  pub none_twice : Rises → NoneTwice (map key xs)
  none_twice rising place other one here there =
      elim (cases_lt place other) [
        | inl before ↦ absurd (never place other before here there)
        | inr not_before ↦ elim (cases_lt other place) [
          | inl behind ↦ absurd (never other place behind there here)
          | inr not_behind ↦ omega (arith, not_before, not_behind)
        ]
      ]
    where
      never : (i j : ℕ) → i < j → slice_get (map key xs) i ≡ Some one → slice_get (map key xs) j ≡ Some one → ⊥
      never i j before at also =
          let (x, x_at, x_is) = from_mapped key xs i one at in
          let (y, y_at, y_is) = from_mapped key xs j one also in
          let first : key (get_or xs i x) ≡ one = ap key (get_or_from_slice_get xs i x x x_at) ∙ x_is in
          let second : key (get_or xs j x) ≡ one = ap key (get_or_from_slice_get xs j y x y_at) ∙ y_is in
          let less : cmp (key (get_or xs i x)) (key (get_or xs j x)) ≡ Less = rising i j x before (slice_get_within xs j y y_at) in
          let tie : cmp one one ≡ Equal = tied_itself total one in
          cc

  -- items that rise by their keys are equal if their keys are
  pub one_item : Rises → (a b : X) → Contains xs a → Contains xs b → key a ≡ key b → a ≡ b
  one_item rising a b (i, i_within, a_is) (j, j_within, b_is) same =
      let equal : i ≡ j =
      none_twice rising i j (key b) (key_at i a i_within ∙ ap (λ (x : X). Some (key x)) a_is ∙ ap (λ (one : K). Some one) same)
      (key_at j b j_within ∙ ap (λ (x : X). Some (key x)) b_is) in
      sym a_is ∙ ap (λ (n : ℕ). get_or xs n a) equal ∙ get_or_default xs j a b j_within ∙ b_is
