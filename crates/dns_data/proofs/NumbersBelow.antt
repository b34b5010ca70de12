-- The numbers below a number.
use Rattle.std.proofs.Common.{◌≡◌, ℕ, zero, suc, ◌<◌, List, [], ◌∷◌, Contains, subst, inl, inr, arith}
use Rattle.std.proofs.lemmas.Bool.{cases_lt}
use Rattle.dns_data.proofs.Membership.{none_in_nil, has_first, has_later, first_or_later}

-- the numbers below a number, the greatest first
pub numbers_below : ℕ → List ℕ
numbers_below zero = []
numbers_below (suc n) = n ∷ numbers_below n

-- each number below a bound is among the numbers below it
pub numbers_below_have : (n k : ℕ) → k < n → Contains (numbers_below n) k
unfolding numbers_below
numbers_below_have zero k below = absurd (omega arith)
numbers_below_have (suc n) k below =
    elim (cases_lt k n) [
      | inl lower ↦ has_later n (numbers_below n) k (numbers_below_have n k lower)
      | inr last ↦ (
          let same : n ≡ k = omega arith in
          subst (λ (m : ℕ). Contains (n ∷ numbers_below n) m) same (has_first n (numbers_below n)))
    ]

-- each of the numbers below a bound is below it
pub from_numbers_below : (n k : ℕ) → Contains (numbers_below n) k → k < n
unfolding numbers_below
from_numbers_below zero k has = absurd (none_in_nil k has)
from_numbers_below (suc n) k has =
    elim (first_or_later n (numbers_below n) k has) [
      | inl same ↦ omega (arith, same)
      | inr later ↦ (let lower : k < n = from_numbers_below n k later in omega arith)
    ]
