use Rattle.std.proofs.Common.{◌≡◌, ℕ, List, length, ap, sym, ◌∙◌, subst, Some, arith}
use Rattle.std.proofs.lemmas.Option.{slice_get-get_or}
use Rattle.dns_data.specs.Name.{Labels}
use Rattle.address_deps.specs.declared.addresses.AddressLearnt.{AddressLearnt}
use Rattle.zone_lookup.specs.ListedFor.{IsListedFor}
use Rattle.address_deps.specs.Dependents.{AreDependents}
use Rattle.zone_lookup.proofs.TopsHolding.{none_listed}
use Rattle.address_deps.proofs.Listing.{more_dependents, borrowed_names, no_dependents}
use Rattle.address_deps.proofs.dependents.Dependents.of.Goals as goal

pub loop-place-init : goal.loop-place-init
loop-place-init c = no_dependents c.args.addresses.now c.new.result (none_listed c.new.result c.new.ensures.empty)

pub loop-place-preserved : goal.loop-place-preserved
loop-place-preserved c =
    let place = c.loop-place.place in
    let one = c.index-addresses-place.result in
    let old = c.loop-place.dependents.places in
    let new = c.put_all.new.self.places in
    more_dependents c.args.addresses.now place one old new
    (slice_get-get_or c.args.addresses.now place one c.loop-place-test.true ∙ ap (λ (t : AddressLearnt). Some t) (sym c.index-addresses-place.is))
    c.loop-place.invariant
    (subst (λ (xs : List Labels). IsListedFor place xs old new) (ap borrowed_names c.as_slice.ensures.value ∙ c.in_ok-names.ensures) c.in_ok-put_all.ensures)

pub returns : goal.returns
returns c =
    let all : c.loop-place.place ≡ length c.args.addresses.now = omega (arith, c.loop-place-test.false, c.loop-place.auto.place-end) in
    subst (λ (bound : ℕ). AreDependents c.args.addresses.now bound c.loop-place.dependents.places) all c.loop-place.invariant
