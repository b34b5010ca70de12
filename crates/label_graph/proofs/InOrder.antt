-- What a list of items put in order has.
use Rattle.std.proofs.Common.{◌≡◌, zero, suc, Bool, true, List, [], ◌∷◌, Contains, AllPairs, Ordering, Less, sym, subst, arith}
use Rattle.std.specs.Cmp.{IsTotalOrder, IsEquivalence}
use Rattle.std.specs.List.{dedup}
use Rattle.std.specs.List.Sorted.{IsStrictlySortedBy}
use Rattle.std.specs.Ordering.{eq_by_cmp}
use Rattle.std.proofs.lemmas.List.Kept.{IsStrictlySortedBy-dedup, Contains-dedup, Contains-from_dedup}
use Rattle.std.proofs.lemmas.List.Sorted.{Contains-permutation, IsPermutation-sym}
use Rattle.std.proofs.lemmas.Map.Keys.{sorted_tail}
use Rattle.std.proofs.lemmas.Map.Views.{All-after_first}
use Rattle.label_graph.specs.Sorting.{IsInOrderOf}

-- each item of a strictly sorted list stands before the later ones
pub pairs_strict : {X : Type 0} (R : X → X → Ordering) (xs : List X) → IsStrictlySortedBy R xs → AllPairs (λ a b. R a b ≡ Less) xs
pairs_strict R [] sorted i j d before within = absurd (omega arith)
pairs_strict R (x ∷ xs) sorted zero zero d before within = absurd (omega arith)
pairs_strict R (x ∷ xs) sorted zero (suc j) d before within = All-after_first R x xs sorted j d (omega arith)
pairs_strict R (x ∷ xs) sorted (suc i) zero d before within = absurd (omega arith)
pairs_strict R (x ∷ xs) sorted (suc i) (suc j) d before within = pairs_strict R xs (sorted_tail R x xs sorted) i j d (omega arith) (omega arith)

module _ {X : Type 0} (R : X → X → Ordering) (o : IsTotalOrder R) (E : X → X → Bool) (ties : (x y : X) → E x y ≡ eq_by_cmp R x y)
    (equal : IsEquivalence E) (exact : (x y : X) → E x y ≡ true → x ≡ y) (items list : List X) (is : IsInOrderOf R E items list)
  where
    -- a list that was put in order has its items in order, each once
    pub once_in_order : AllPairs (λ a b. R a b ≡ Less) list
    once_in_order =
        subst (AllPairs (λ a b. R a b ≡ Less)) (sym is.once)
        (pairs_strict R (dedup E is.sorted) (IsStrictlySortedBy-dedup o ties is.sorted is.order))

    -- a list that was put in order has each of the items
    pub in_order_has : (x : X) → Contains items x → Contains list x
    in_order_has x has =
        subst (λ (xs : List X). Contains xs x) (sym is.once)
        (Contains-dedup equal exact is.sorted x (Contains-permutation items is.sorted x is.same has))

    -- a list that was put in order has no other items
    pub from_in_order : (x : X) → Contains list x → Contains items x
    from_in_order x has =
        Contains-permutation is.sorted items x (IsPermutation-sym items is.sorted is.same)
        (Contains-from_dedup E is.sorted x (subst (λ (xs : List X). Contains xs x) is.once has))
