-- A search item by item.
use Rattle.std.proofs.Common.{◌≡◌, ℕ, zero, suc, ◌+◌, ◌<◌, Bool, true, false, cond, List, [], ◌∷◌, ◌++◌, length, take, get_or, Some, None, ap, ◌∙◌, arith}
use Rattle.std.specs.List.{find}
use Rattle.std.proofs.lemmas.List.{take_more}

-- the next item is found, where none before it is and it passes
pub found_next : {X : Type 0} (test : X → Bool) (xs : List X) (i : ℕ) (d : X) → i < length xs → find test (take i xs) ≡ None → test (get_or xs i d) ≡ true
    → find test xs ≡ Some (get_or xs i d)
found_next test [] i d less none holds = absurd (omega arith)
found_next test (x ∷ xs) zero d less none holds = ap (λ (b : Bool). cond b (Some x) (find test xs)) holds
found_next {X = X} test (x ∷ xs) (suc i) d less none holds = by (test x) none (λ rest. found_next test xs i d (omega arith) rest holds) where
  by : (b : Bool) → cond b (Some x) (find test (take i xs)) ≡ None → (find test (take i xs) ≡ None → find test xs ≡ Some (get_or xs i d))
      → cond b (Some x) (find test xs) ≡ Some (get_or xs i d)
  by true none rest = cc
  by false none rest = rest none

none_more : {X : Type 0} (test : X → Bool) (xs : List X) (x : X) → find test xs ≡ None → test x ≡ false → find test (xs ++ x ∷ []) ≡ None
none_more test [] x none fails = ap (λ (b : Bool). cond b (Some x) None) fails
none_more {X = X} test (y ∷ xs) x none fails = by (test y) none (λ rest. none_more test xs x rest fails) where
  by : (b : Bool) → cond b (Some y) (find test xs) ≡ None → (find test xs ≡ None → find test (xs ++ x ∷ []) ≡ None)
      → cond b (Some y) (find test (xs ++ x ∷ [])) ≡ None
  by true none rest = cc
  by false none rest = rest none

-- if no item so far is found and the next one fails the test, none up to it is found
pub none_next : {X : Type 0} (test : X → Bool) (xs : List X) (i : ℕ) (d : X) → i < length xs → find test (take i xs) ≡ None → test (get_or xs i d) ≡ false
    → find test (take (i + 1) xs) ≡ None
none_next test xs i d less none fails = ap (find test) (take_more xs i d less) ∙ none_more test (take i xs) (get_or xs i d) none fails
