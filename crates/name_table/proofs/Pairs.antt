-- Two lists, of which each item of the second belongs to the place of the first beside it.
use Rattle.std.proofs.Common.{◌≡◌, ◌≢◌, ℕ, ◌+◌, ◌-◌, ◌<◌, List, [], ◌∷◌, ◌++◌, length, get_or, sym, ap, ◌∙◌, subst, inl, inr, arith}
use Rattle.std.proofs.lemmas.Bool.{cases_eq}
use Rattle.std.proofs.lemmas.List.{get_or_append_left, get_or-append_right}

-- what holds of each item of a list at its place, and of one put behind it, holds of each item then
pub each_pushed : {Y : Type 0} (P : ℕ → Y → Type 0) (ys : List Y) (i : ℕ) (y : Y) → length ys ≡ i
    → ((k : ℕ) (d : Y) → k < i → P k (get_or ys k d)) → P i y → (k : ℕ) (d : Y) → k < i + 1 → P k (get_or (ys ++ y ∷ []) k d)
each_pushed P ys i y many each here k d within =
    elim (cases_eq k i) [
      | inl last ↦ (
          let item : y ≡ get_or (ys ++ y ∷ []) k d =
          ap (λ (n : ℕ). get_or (y ∷ []) n d) (let e : 0 ≡ i - i = omega arith in e)
          ∙ sym (get_or-append_right ys (y ∷ []) i i d many (omega arith)) ∙ ap (λ (n : ℕ). get_or (ys ++ y ∷ []) n d) (sym last) in
          subst (P k) item (subst (λ (n : ℕ). P n y) (sym last) here))
      | inr other ↦ (
          let ne : k ≢ i = other in
          let lower : k < i = omega arith in
          subst (P k) (sym (get_or_append_left ys (y ∷ []) d k (omega arith))) (each k d lower))
    ]
