use Rattle.std.proofs.Common.{ℕ, ◌<◌, ◌≤◌, ◌∷◌, [], ◌++◌, take, sym, ap, ◌∙◌, subst, refl}
use Rattle.std.proofs.lemmas.List.{take_all, take_more}
use Rattle.zone_lookup.proofs.same_zones.are_same.Goals as goal

pub loop-place-init : goal.loop-place-init
loop-place-init g c = refl

pub loop-place-preserved : goal.loop-place-preserved
loop-place-preserved g c =
    let some = c.args.some.now in
    let others = c.args.others.now in
    let place = c.loop-place.place in
    let one = c.index-some-place.result in
    let other = c.index-others-place.result in
    take_more some place one c.loop-place-test.true
    ∙ ap (λ item. take place some ++ item ∷ []) (sym c.index-some-place.is ∙ c.is_same.ensures c.if-not-is_same.false)
    ∙ ap (λ front. front ++ other ∷ []) c.loop-place.invariant
    ∙ ap (λ item. take place others ++ item ∷ []) c.index-others-place.is
    ∙ sym (take_more others place other (subst (λ (n : ℕ). place < n) c.if-some-others.false c.loop-place-test.true))

pub returns : goal.returns
returns g c = λ yes.
    sym (take_all c.loop-place.place c.args.some.now c.loop-place-test.false)
    ∙ c.loop-place.invariant
    ∙ take_all c.loop-place.place c.args.others.now (subst (λ (n : ℕ). n ≤ c.loop-place.place) c.if-some-others.false c.loop-place-test.false)
