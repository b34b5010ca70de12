use Rattle.std.proofs.Common.{◌≡◌, ℕ, ◌<◌, ◌≤◌, ◌∷◌, [], ◌++◌, map, take, sym, ap, ◌∙◌, subst, refl}
use Rattle.std.proofs.lemmas.List.{map-append, take_all, take_more}
use Rattle.dns_data.specs.declared.rdata.Rr.{Rr}
use Rattle.zone_copies.specs.Plain.{plain}
use Rattle.zone_copies.proofs.PlainRecords.{same_plain}
use Rattle.zone_copies.proofs.same.are_same.Goals as goal

pub loop-place-init : goal.loop-place-init
loop-place-init c = refl

pub loop-place-preserved : goal.loop-place-preserved
loop-place-preserved c =
    let some = c.args.some.now in
    let others = c.args.others.now in
    let place = c.loop-place.place in
    let one = c.index-some-place.result in
    let other = c.index-others-place.result in
    let same : plain one ≡ plain other = same_plain one other (sym c.is_same.ensures ∙ c.if-not-is_same.false) in
    ap (map plain) (take_more some place one c.loop-place-test.true ∙ ap (λ (item : Rr). take place some ++ item ∷ []) (sym c.index-some-place.is))
    ∙ map-append plain (take place some) (one ∷ [])
    ∙ (λ i. c.loop-place.invariant i ++ same i ∷ [])
    ∙ sym (map-append plain (take place others) (other ∷ []))
    ∙ ap (map plain) (ap (λ (item : Rr). take place others ++ item ∷ []) c.index-others-place.is
    ∙ sym (take_more others place other (subst (λ (n : ℕ). place < n) c.if-some-others.false c.loop-place-test.true)))

pub returns : goal.returns
returns c = λ yes.
    ap (map plain) (sym (take_all c.loop-place.place c.args.some.now c.loop-place-test.false))
    ∙ c.loop-place.invariant
    ∙ ap (map plain) (take_all c.loop-place.place c.args.others.now (subst (λ (n : ℕ). n ≤ c.loop-place.place) c.if-some-others.false c.loop-place-test.false))
