-- What stands at each place of a list after a write or an append, and how often an item stands in it.
use Rattle.std.proofs.Common.{◌≡◌, ℕ, zero, suc, ◌+◌, ◌<◌, Bool, true, false, cond, ◌||◌, List, [], ◌∷◌, ◌++◌, length, set, replicate, count_by, Option, Some, None, slice_get, refl, sym, ◌∙◌, ap, arith, ◌⊎◌, inl, inr, ⊎_elim}
use Rattle.std.specs.List.{list_any}
use Rattle.std.proofs.lemmas.Bool.{cases_eq}
use Rattle.std.proofs.lemmas.List.Sums.{sum_by_push, sum_by-cons, sum_by-append}
use Rattle.std.proofs.Math.Bool.{or-false}

-- at the place of a write stands what was written
pub slice_get-set_same : {X : Type 0} (xs : List X) (i : ℕ) (y : X) → i < length xs → slice_get (set xs i y) i ≡ Some y
slice_get-set_same [] i y h = absurd (omega arith)
slice_get-set_same (x ∷ xs) zero y h = refl
slice_get-set_same (x ∷ xs) (suc i) y h = slice_get-set_same xs i y (omega arith)

-- at each other place stands what stood there before a write
pub slice_get-set_other : {X : Type 0} (xs : List X) (i k : ℕ) (y : X) → (k ≡ i → ⊥) → slice_get (set xs i y) k ≡ slice_get xs k
slice_get-set_other [] i k y ne = refl
slice_get-set_other (x ∷ xs) zero zero y ne = absurd (ne refl)
slice_get-set_other (x ∷ xs) zero (suc k) y ne = refl
slice_get-set_other (x ∷ xs) (suc i) zero y ne = refl
slice_get-set_other (x ∷ xs) (suc i) (suc k) y ne = slice_get-set_other xs i k y (λ e. ne (ap suc e))

-- what f says of each place stays, if it stays at the place of the write
pub stays_at_set : {X Y : Type 0} (f : Option X → Y) (xs : List X) (i : ℕ) (y : X) → i < length xs → f (slice_get xs i) ≡ f (Some y) → (k : ℕ) → f (slice_get (set xs i y) k) ≡ f (slice_get xs k)
stays_at_set f xs i y h e k =
    ⊎_elim
    (λ (q : k ≡ i). rw q (ap f (slice_get-set_same xs i y h) ∙ sym e))
    (λ (ne : k ≡ i → ⊥). ap f (slice_get-set_other xs i k y ne))
    (cases_eq k i)

stays_at_replicate : {X Y : Type 0} (f : Option X → Y) (n : ℕ) (y : X) → f None ≡ f (Some y) → (k : ℕ) → f (slice_get (replicate n y) k) ≡ f None
stays_at_replicate f zero y e k = refl
stays_at_replicate f (suc n) y e zero = sym e
stays_at_replicate f (suc n) y e (suc k) = stays_at_replicate f n y e k

-- what f says of each place stays after an append of copies of which it says what it says of no item
pub stays_at_append : {X Y : Type 0} (f : Option X → Y) (xs : List X) (n : ℕ) (y : X) → f None ≡ f (Some y) → (k : ℕ) → f (slice_get (xs ++ replicate n y) k) ≡ f (slice_get xs k)
stays_at_append f [] n y e k = stays_at_replicate f n y e k
stays_at_append f (x ∷ xs) n y e zero = refl
stays_at_append f (x ∷ xs) n y e (suc k) = stays_at_append f xs n y e k

-- an item of a list with one more at its end is an item before, or the last one
pub slice_get_push_cases : {X : Type 0} (xs : List X) (y z : X) (k : ℕ) → slice_get (xs ++ y ∷ []) k ≡ Some z → ((k < length xs) × (slice_get xs k ≡ Some z)) ⊎ ((k ≡ length xs) × (y ≡ z))
slice_get_push_cases [] y z zero h = inr (refl, cc)
slice_get_push_cases [] y z (suc k) h = absurd cc
slice_get_push_cases (x ∷ xs) y z zero h = inl (omega arith, h)
slice_get_push_cases (x ∷ xs) y z (suc k) h =
    ⊎_elim
    (λ (p : (k < length xs) × (slice_get xs k ≡ Some z)). inl (omega arith, p.1))
    (λ (p : (k ≡ length xs) × (y ≡ z)). inr (ap suc p.0, p.1))
    (slice_get_push_cases xs y z k h)

-- an item at the end counts once more where it passes
pub count_by_push : {X : Type 0} (p : X → Bool) (xs : List X) (y : X) → count_by p (xs ++ y ∷ []) ≡ count_by p xs + cond (p y) 1 0
count_by_push p xs y = sum_by_push (λ x. cond (p x) 1 0) xs y

-- an item in front counts once more where it passes
pub count_by-cons : {X : Type 0} (p : X → Bool) (x : X) (xs : List X) → count_by p (x ∷ xs) ≡ cond (p x) 1 0 + count_by p xs
count_by-cons p x xs = sum_by-cons (λ y. cond (p y) 1 0) x xs

-- some item of a list with one more at its end passes where one before does, or the last one
pub list_any_push : {X : Type 0} (p : X → Bool) (xs : List X) (y : X) → list_any p (xs ++ y ∷ []) ≡ (list_any p xs || p y)
list_any_push p [] y = or-false (p y)
list_any_push p (x ∷ xs) y = elim (p x) as (λ b. (b || list_any p (xs ++ y ∷ [])) ≡ ((b || list_any p xs) || p y)) [ true ↦ refl | false ↦ list_any_push p xs y ]

-- of two lists together as many items pass as of each
pub count_by-append : {X : Type 0} (p : X → Bool) (xs ys : List X) → count_by p (xs ++ ys) ≡ count_by p xs + count_by p ys
count_by-append p xs ys = sum_by-append (λ y. cond (p y) 1 0) xs ys
