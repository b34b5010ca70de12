-- Items that differ from each other and are all in a list are no more than its items.
use Rattle.std.proofs.Common.{◌≢◌, ◌≤◌, List, [], ◌∷◌, length, Contains, AllPairs, sym, inl, inr, arith}
use Rattle.std.specs.Prelude.{IsPermutation}
use Rattle.std.specs.List.{remove}
use Rattle.std.proofs.lemmas.List.Sorted.{IsPermutation-remove, Contains-permutation, length_permutation}
use Rattle.dns_data.proofs.Membership.{has_first, has_later, first_or_later, pairs_first, pairs_rest}

-- a list of different items is no longer than one that has all its items
pub fits_among : {X : Type 0} (xs ys : List X) → AllPairs (λ a b. a ≢ b) xs → ((x : X) → Contains xs x → Contains ys x)
    → length xs ≤ length ys
fits_among [] ys differ has = omega arith
fits_among (x ∷ xs) ys differ has =
    by (has x (has_first x xs)) (λ others all. fits_among xs others (pairs_rest (λ a b. a ≢ b) x xs differ) all)
  where
    by : Contains ys x → ((others : List _) → ((y : _) → Contains xs y → Contains others y) → length xs ≤ length others)
        → length (x ∷ xs) ≤ length ys
    by (k, below, is) rest =
        let same : IsPermutation ys (x ∷ remove ys k) = IsPermutation-remove ys k x below (sym is) in
        let fits : length xs ≤ length (remove ys k) =
        rest (remove ys k) (λ y later. elim (first_or_later x (remove ys k) y
        (Contains-permutation ys (x ∷ remove ys k) y same (has y (has_later x xs y later)))) [
          | inl e ↦ absurd (pairs_first (λ a b. a ≢ b) x xs differ y later e)
          | inr behind ↦ behind
        ]) in
        omega (arith, length_permutation ys (x ∷ remove ys k) same)
