use Rattle.std.proofs.Common.{◌≡◌, ℕ, ◌+◌, length, Contains, ap, ◌∙◌, subst, arith}
use Rattle.std.specs.Prelude.{◌↔◌}
use Rattle.dns_data.specs.Listed.{places_of}
use Rattle.zone_lookup.specs.Tops.{IsListedAbove}
use Rattle.zone_lookup.proofs.TopsHolding.{front_more}
use Rattle.zone_lookup.proofs.tops.places_above.Goals as goal

pub loop-count-preserved : goal.loop-count-preserved
loop-count-preserved c =
    front_more c.args.places.now c.args.name.now c.loop-count.count c.loop-count.found.keys c.put_places.new.found.keys c.listed_for.result.now
    (c.listed_for.ensures ∙ ap (places_of c.args.places.now) c.in_ok-front.ensures) c.loop-count.invariant c.in_ok-put_places.ensures

pub returns : goal.returns
returns c =
    let all : c.loop-count.count ≡ length c.args.name.now + 1 = omega (arith, c.loop-count-test.false, c.loop-count.auto.count-end, c.len.ensures.value) in
    subst (λ (bound : ℕ). (place : ℕ) → Contains c.loop-count.found.keys place ↔ IsListedAbove c.args.places.now c.args.name.now bound place) all c.loop-count.invariant
