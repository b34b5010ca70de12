use Rattle.std.proofs.Common.{List, ◌∷◌, [], ◌++◌, map, take, ap, sym, ◌∙◌, subst}
use Rattle.std.proofs.lemmas.List.{map-append, take_all, take_more}
use Rattle.dns_data.specs.Name.{Labels}
use Rattle.net_model.specs.declared.config.Zone.{Zone}
use Rattle.zone_lookup.specs.ListedFor.{IsListedFor}
use Rattle.zone_lookup.proofs.TopsHolding.{listed_more, listed_none}
use Rattle.zone_lookup.proofs.tops.list_zones.Goals as goal

pub loop-zone-init : goal.loop-zone-init
loop-zone-init c = listed_none c.args.place c.args.places.now

pub loop-zone-preserved : goal.loop-zone-preserved
loop-zone-preserved c =
    let zones = c.args.zones.now in
    let i = c.loop-zone.zone-index in
    let zone = c.zone-item.result in
    let old = c.args.places.now in
    let new = c.list_place.new.places in
    subst (λ (names : List Labels). IsListedFor c.args.place names old new)
    (sym (ap (map (λ (z : Zone). z.origin)) (take_more zones i zone c.loop-zone-test.true ∙ ap (λ (z : Zone). take i zones ++ z ∷ []) (sym c.zone-item.is))
    ∙ map-append (λ (z : Zone). z.origin) (take i zones) (zone ∷ [])))
    (listed_more c.args.place (map (λ (z : Zone). z.origin) (take i zones)) zone.origin old c.loop-zone.places new c.loop-zone.invariant c.in_ok-list_place.ensures)

pub returns : goal.returns
returns c =
    subst (λ (zones : List Zone). IsListedFor c.args.place (map (λ (z : Zone). z.origin) zones) c.args.places.now c.loop-zone.places)
    (take_all c.loop-zone.zone-index c.args.zones.now c.loop-zone-test.false) c.loop-zone.invariant
