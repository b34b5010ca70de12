use Rattle.std.proofs.Common.{◌≡◌, ◌+◌, ℕ, length, subst, sym, arith}
use Rattle.address_deps.specs.Dependents.{AreAllPlaces}
use Rattle.address_deps.proofs.Listing.{one_place_more}
use Rattle.address_deps.proofs.direction.all_places.Goals as goal

pub loop-place-preserved : goal.loop-place-preserved
loop-place-preserved c =
    subst (AreAllPlaces (c.loop-place.place + 1)) (sym c.in_ok-push.ensures.ok) (one_place_more c.loop-place.place c.loop-place.places c.loop-place.invariant)

pub returns : goal.returns
returns c =
    let all : c.loop-place.place ≡ length c.args.addresses.now = omega (arith, c.loop-place-test.false, c.loop-place.auto.place-end) in
    subst (λ (bound : ℕ). AreAllPlaces bound c.loop-place.places) all c.loop-place.invariant
