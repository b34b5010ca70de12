-- Items of a list that are looked at one after the other.
use Rattle.std.proofs.Common.{◌≡◌, ℕ, ◌+◌, ◌<◌, ◌≤◌, List, [], ◌∷◌, ◌++◌, length, take, get_or, sym, ap, ◌∙◌, subst, inl, inr, arith}
use Rattle.std.specs.Prelude.{Contains}
use Rattle.std.proofs.lemmas.List.{take_all, take_more}
use Rattle.std.proofs.lemmas.List.Elements.{Contains-append_cases, Contains-get_or}
use Rattle.dns_data.proofs.Membership.{none_in_nil, first_or_later}

-- the item is in the list
pub is_there : {X : Type 0} (xs : List X) (i : ℕ) (x : X) → i < length xs → x ≡ get_or xs i x → Contains xs x
is_there xs i x within is = subst (Contains xs) (sym is) (Contains-get_or xs i x within)

-- a list of one item is its first item
pub only_one : {X : Type 0} (xs : List X) (x : X) → 1 ≤ length xs → length xs < 2 → x ≡ get_or xs 0 x → xs ≡ x ∷ []
only_one [] x some few is = absurd (omega arith)
only_one (y ∷ []) x some few is = ap (λ z. z ∷ []) (sym is)
only_one (y ∷ z ∷ xs) x some few is = absurd (omega arith)

-- a list of two items is its first item and its second
pub only_two : {X : Type 0} (xs : List X) (x y : X) → 2 ≤ length xs → length xs < 3 → x ≡ get_or xs 0 x → y ≡ get_or xs 1 y → xs ≡ x ∷ y ∷ []
only_two [] x y some few is also = absurd (omega arith)
only_two (a ∷ []) x y some few is also = absurd (omega arith)
only_two (a ∷ b ∷ []) x y some few is also = ap (λ z. z ∷ b ∷ []) (sym is) ∙ ap (λ z. x ∷ z ∷ []) (sym also)
only_two (a ∷ b ∷ c ∷ xs) x y some few is also = absurd (omega arith)

module _ {X : Type 0} (P : X → Type 0) (xs : List X) (i : ℕ) (none : (y : X) → Contains (take i xs) y → P y → ⊥) where
  -- if none of the first items has a property nor the next one, none up to it has
  pub none_more : (x : X) → i < length xs → x ≡ get_or xs i x → (P x → ⊥) → (y : X) → Contains (take (i + 1) xs) y → P y → ⊥
  none_more x within is not y has so =
      elim (Contains-append_cases (take i xs) (x ∷ []) y
      (subst (λ (ys : List X). Contains ys y) (take_more xs i x within ∙ ap (λ (z : X). take i xs ++ z ∷ []) (sym is)) has)) [
        | inl before ↦ none y before so
        | inr here ↦ elim (first_or_later x [] y here) [
          | inl same ↦ not (subst P (sym same) so)
          | inr nothing ↦ absurd (none_in_nil y nothing)
        ]
      ]

  -- if none of as many items as there are has a property, none has
  pub none_at_all : length xs ≤ i → (y : X) → Contains xs y → P y → ⊥
  none_at_all past y has so = none y (subst (λ (ys : List X). Contains ys y) (sym (take_all i xs past)) has) so
