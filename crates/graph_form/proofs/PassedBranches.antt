-- Branches of a list that so far are not to be followed.
use Rattle.std.proofs.Common.{◌≡◌, ℕ, ◌+◌, ◌<◌, ◌≤◌, Bool, false, List, get_or, sym, ap, ◌∙◌, subst, inl, inr, Some, arith}
use Rattle.std.specs.Prelude.{slice_get}
use Rattle.std.specs.Option.{unwrap_or}
use Rattle.std.proofs.lemmas.Bool.{cases_eq}
use Rattle.std.proofs.lemmas.Option.{unwrap_or-slice_get}

-- none of the items from one place on and before another passes the test
abbrev pub NonePasses : {A : Type 0} → (A → Bool) → List A → ℕ → ℕ → Type 0
NonePasses {A = A} test xs from to = (number : ℕ) (x : A) → from ≤ number → number < to → slice_get xs number ≡ Some x → test x ≡ false

-- no item passes up to one place more, if the one there fails the test
pub none_passes_more : {A : Type 0} (test : A → Bool) (xs : List A) (from i : ℕ) (item : A) → item ≡ get_or xs i item → test item ≡ false
    → NonePasses test xs from i → NonePasses test xs from (i + 1)
none_passes_more test xs from i item is fails none number x low high there =
    elim (cases_eq i number) [
      | inl same ↦ (
          let at_i : slice_get xs i ≡ Some x = ap (slice_get xs) same ∙ there in
          let one : item ≡ x = is ∙ (sym (unwrap_or-slice_get xs i item) ∙ ap (λ found. unwrap_or found item) at_i) in
          subst (λ y. test y ≡ false) one fails)
      | inr other ↦ none number x low (omega arith) there
    ]
