use Rattle.std.proofs.Common.{◌≡◌, ◌&&◌, ℕ, Bool, map, ◌∙◌, subst}
use Rattle.std.proofs.lemmas.Result.{IfOk-weaker}
use Rattle.zone_rules.specs.Buckets.{has_rival, lower_half, lower_keys, Marked}
use Rattle.zone_rules.proofs.Rivals.{told-by-both}
use Rattle.zone_rules.proofs.buckets.rivals.Goals as goal

pub returns : goal.returns
returns c =
    let upper = c.in_ok-of.field-0 in
    let lower = c.in_ok-lower.lower in
    let may : ℕ → Bool = λ number. has_rival upper number && has_rival lower (lower_half number) in
    let rivals_are : c.as_slice.result.now ≡ map (λ key. has_rival upper key.0) c.args.keys.now = c.as_slice.ensures.value ∙ c.in_ok-upper.ensures in
    let lower_is : c.in_ok-lower_keys.lower_keys.items ≡ lower_keys (has_rival upper) c.args.keys.now = c.in_ok-lower_keys.ensures (has_rival upper) rivals_are in
    let marked : Marked lower (lower_keys (has_rival upper) c.args.keys.now) = subst (Marked lower) (c.as_slice-2.ensures.value ∙ lower_is) c.in_ok-lower.ensures in
    IfOk-weaker c.rivals_too.result _ _
    (λ both said. (may, said, told-by-both upper lower c.args.keys.now c.in_ok-of.ensures.contested marked.contested))
    (c.rivals_too.ensures (has_rival upper) (c.as_slice-3.ensures.value ∙ c.in_ok-upper.ensures))
