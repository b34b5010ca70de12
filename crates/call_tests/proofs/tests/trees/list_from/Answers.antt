use Rattle.std.proofs.Common.{◌≡◌, ℕ, zero, suc, ◌+◌, ◌∷◌, [], ◌++◌, sym, ◌∙◌, ap, arith}
use Rattle.std.specs.List.{range_with_len}
use Rattle.call_tests.proofs.tests.trees.list_from.Goals as goal

-- one number more stands at the end
range_more : (a n : ℕ) → range_with_len a (suc n) ≡ range_with_len a n ++ (a + n) ∷ []
range_more a zero = ap (λ k. k ∷ []) (let e : a ≡ a + 0 = omega arith in e)
range_more a (suc n) = ap (λ l. a ∷ l) (range_more (a + 1) n ∙ ap (λ k. range_with_len (a + 1) n ++ k ∷ []) (let e : (a + 1) + n ≡ a + suc n = omega arith in e))

pub loop-place-preserved : goal.loop-place-preserved
loop-place-preserved c =
    c.in_ok-push.ensures.ok
    ∙ ap (λ l. l ++ (c.args.first + c.loop-place.place) ∷ []) c.loop-place.invariant
    ∙ sym (range_more c.args.first c.loop-place.place)
    ∙ ap (range_with_len c.args.first) (let e : suc c.loop-place.place ≡ c.loop-place.place + 1 = omega arith in e)
