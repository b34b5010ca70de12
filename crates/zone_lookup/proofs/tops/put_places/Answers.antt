use Rattle.std.proofs.Common.{ℕ, List, Contains, subst}
use Rattle.std.specs.Prelude.{◌⊎◌, ◌↔◌}
use Rattle.std.proofs.lemmas.List.{take_all}
use Rattle.zone_lookup.proofs.TopsHolding.{places_more}
use Rattle.zone_lookup.proofs.tops.put_places.Goals as goal

pub loop-place-preserved : goal.loop-place-preserved
loop-place-preserved c =
    places_more c.args.found.now.keys c.loop-place.found.keys c.insert.new.self.keys c.args.places.now c.loop-place.place-index c.loop-place-test.true
    c.loop-place.invariant c.in_ok-insert.ensures.keys

pub returns : goal.returns
returns c =
    subst (λ (places : List ℕ). (place : ℕ) → Contains c.loop-place.found.keys place ↔ (Contains c.args.found.now.keys place ⊎ Contains places place))
    (take_all c.loop-place.place-index c.args.places.now c.loop-place-test.false) c.loop-place.invariant
