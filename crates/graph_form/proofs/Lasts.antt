-- The last item of a list.
use Rattle.std.proofs.Common.{◌≡◌, ◌-◌, suc, List, [], ◌∷◌, ◌++◌, length, slice_get, Some, refl, ap, ◌∙◌, subst, arith}
use Rattle.std.proofs.lemmas.List.{length-append}
use Rattle.graph_form.specs.EndFaults.{last_of}

-- a list with a last item is the items before it and that one
pub before_last : {X : Type 0} (xs : List X) (x : X) → last_of xs ≡ Some x → (before : List X) × (xs ≡ before ++ x ∷ [])
before_last [] x last = absurd cc
before_last (y ∷ []) x last =
    let same : y ≡ x = cc in
    ([], ap (λ z. z ∷ []) same)
before_last (y ∷ z ∷ zs) x last =
    let here : suc (suc (length zs)) - 1 ≡ suc (length zs) = omega arith in
    let there : suc (length zs) - 1 ≡ length zs = omega arith in
    let rest = before_last (z ∷ zs) x (ap (slice_get (z ∷ zs)) there ∙ subst (λ n. slice_get (y ∷ z ∷ zs) n ≡ Some x) here last) in
    (y ∷ rest.0, ap (λ l. y ∷ l) rest.1)

-- the last item of a list with one put behind it is that one
pub last_behind : {X : Type 0} (before : List X) (x : X) → last_of (before ++ x ∷ []) ≡ Some x
last_behind [] x = refl
last_behind (y ∷ before) x =
    let at : suc (length (before ++ x ∷ [])) - 1 ≡ suc (length (before ++ x ∷ []) - 1) = omega (arith, length-append before (x ∷ [])) in
    ap (slice_get (y ∷ (before ++ x ∷ []))) at ∙ last_behind before x
