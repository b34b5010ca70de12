-- Places that the order of two items beside each other tells.
use Rattle.std.proofs.Common.{◌≡◌, ℕ, ◌+◌, ◌<◌, ◌≤◌, List, length, get_or, Err, Ordering, Less, Equal, Greater, refl, subst, arith}
use Rattle.std.specs.List.{AllWithin, HoldsAt}
use Rattle.std.specs.List.Sorted.{IsNonDecreasingBy, IsBinarySearchResult}
use Rattle.std.specs.Ordering.{ordering_index}

is_less : (order : Ordering) → ordering_index order ≤ 0 → order ≡ Less
is_less Less low = refl
is_less Equal low = absurd (omega arith)
is_less Greater low = absurd (omega arith)

is_greater : (order : Ordering) → 2 ≤ ordering_index order → order ≡ Greater
is_greater Less high = absurd (omega arith)
is_greater Equal high = absurd (omega arith)
is_greater Greater high = refl

module _ {X : Type 0} (order : X → Ordering) (xs : List X) (place : ℕ) where
  abbrev Rises : Type 0
  Rises = IsNonDecreasingBy (λ x. ordering_index (order x)) xs

  -- what stands before the name stands there with all before it
  all_before : place < length xs → HoldsAt (λ x. order x ≡ Less) xs place → Rises → AllWithin (λ x. order x ≡ Less) xs 0 (place + 1)
  all_before within less rises = λ k d low high.
      is_less (order (get_or xs k d))
      (subst (λ (o : Ordering). ordering_index (order (get_or xs k d)) ≤ ordering_index o) (less d) (rises k place d (omega arith) within))

  -- and what stands behind it with all behind
  all_behind : HoldsAt (λ x. order x ≡ Greater) xs (place + 1) → Rises → AllWithin (λ x. order x ≡ Greater) xs (place + 1) (length xs)
  all_behind greater rises = λ k d low high.
      is_greater (order (get_or xs k d))
      (subst (λ (o : Ordering). ordering_index o ≤ ordering_index (order (get_or xs k d))) (greater d) (rises (place + 1) k d low high))

  -- the name's place is between an item that stands before the name and a next one that stands behind it
  pub between_two : place < length xs → HoldsAt (λ x. order x ≡ Less) xs place → HoldsAt (λ x. order x ≡ Greater) xs (place + 1)
      → IsBinarySearchResult order xs (Err (place + 1))
  between_two within less greater = λ rises. (all_before within less rises, all_behind greater rises)

  -- the name's place is behind the last item, if that stands before the name
  pub behind_last : place < length xs → HoldsAt (λ x. order x ≡ Less) xs place → length xs ≤ place + 1 → IsBinarySearchResult order xs (Err (place + 1))
  behind_last within less last = λ rises. (all_before within less rises, λ k d low high. absurd (omega arith))
