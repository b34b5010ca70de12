use Rattle.std.proofs.Common.{◌≡◌, ℕ, Bor, length, map, subst, arith}
use Rattle.std.proofs.lemmas.List.{length-map}
use Rattle.dns_data.specs.Name.{Labels}
use Rattle.net_model.specs.declared.config.Zone.{Zone}
use Rattle.zone_lookup.specs.ListedFor.{IsListedFor}
use Rattle.zone_lookup.proofs.TopsHolding.{lists_more}
use Rattle.zone_lookup.proofs.tops.list_top.Goals as goal

pub returns-clause-places : goal.returns-clause-places
returns-clause-places c =
    let now_of = λ (top : Bor Labels). top.now in
    let tops = c.args.tops.now.items in
    let origins = map (λ (zone : Zone). zone.origin) c.zones_of.result.now in
    let old = c.args.places.now in
    let new = c.list_zones.new.places in
    let many : c.len.result ≡ length (map now_of tops) = omega (arith, c.len.ensures, length-map tops now_of) in
    lists_more c.args.hosts.now (map now_of tops) c.args.top.now origins old new c.zones_of.ensures.origins c.requires
    (subst (λ (n : ℕ). IsListedFor n origins old new) many c.in_ok-list_zones.ensures)
