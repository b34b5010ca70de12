-- A list of which the first items were changed one after another.
use Rattle.std.proofs.Common.{◌≡◌, ℕ, zero, suc, ◌+◌, ◌<◌, ◌≤◌, List, [], ◌∷◌, length, get_or, slice_set, refl, arith, subst}
use Rattle.std.specs.Prelude.{⊤}
use Rattle.std.specs.List.{AllZip}

-- the first items, so many, are changed by the relation, and the others are as they were
abbrev pub IsDoneTo : {B : Type 0} → (B → B → Type 0) → ℕ → List B → List B → Type 0
IsDoneTo R count [] [] = ⊤
IsDoneTo R count [] (now ∷ later) = ⊥
IsDoneTo R count (was ∷ more) [] = ⊥
IsDoneTo R zero (was ∷ more) (now ∷ later) = (now ≡ was) × IsDoneTo R zero more later
IsDoneTo R (suc count) (was ∷ more) (now ∷ later) = R was now × IsDoneTo R count more later

-- at first no item is changed
pub none_done : {B : Type 0} (R : B → B → Type 0) (items : List B) → IsDoneTo R 0 items items
none_done R [] = tt
none_done R (item ∷ items) = (refl, none_done R items)

-- if as many items are changed as there are, each is changed by the relation
pub all_done : {B : Type 0} (R : B → B → Type 0) (count : ℕ) (was now : List B) → length now ≤ count → IsDoneTo R count was now → AllZip R was now
all_done R count [] [] h done = tt
all_done R count [] (y ∷ ys) h done = absurd done
all_done R count (x ∷ xs) [] h done = absurd done
all_done R zero (x ∷ xs) (y ∷ ys) h done = absurd (omega arith)
all_done R (suc count) (x ∷ xs) (y ∷ ys) h done = (done.0, all_done R count xs ys (omega arith) done.1)

-- the next item is changed by the relation behind those that were
pub one_more : {B : Type 0} (R : B → B → Type 0) (count : ℕ) (was now : List B) (d to : B) → count < length now → IsDoneTo R count was now → R (get_or now count d) to
    → IsDoneTo R (suc count) was (slice_set now count to)
one_more R count [] [] d to h done step = absurd (omega arith)
one_more R count [] (y ∷ ys) d to h done step = absurd done
one_more R count (x ∷ xs) [] d to h done step = absurd done
one_more R zero (x ∷ xs) (y ∷ ys) d to h done step = (subst (λ z. R z to) done.0 step, done.1)
one_more R (suc count) (x ∷ xs) (y ∷ ys) d to h done step = (done.0, one_more R count xs ys d to (omega arith) done.1 step)

-- the next item, which is known to stand there, is changed by the relation behind those that were
pub one_item_more : {B : Type 0} (R : B → B → Type 0) (count : ℕ) (was now : List B) (from to : B) → count < length now → from ≡ get_or now count from → R from to → IsDoneTo R count was now
    → IsDoneTo R (count + 1) was (slice_set now count to)
one_item_more R count was now from to h there step done =
    let next : suc count ≡ count + 1 = omega arith in
    subst (λ n. IsDoneTo R n was (slice_set now count to)) next (one_more R count was now from to h done (subst (λ b. R b to) there step))
