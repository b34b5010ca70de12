use Rattle.std.proofs.Common.{length, refl, sym, ◌∙◌}
use Rattle.std.proofs.lemmas.Option.{slice_get_read}
use Rattle.dns_data.proofs.Names.{name_eq_decides}
use Rattle.config_load.proofs.KnownRows.{zone_held}
use Rattle.config_load.proofs.servers.Servers.zone.Goals as goal

pub returns-then-eq-clause-held : goal.returns-then-eq-clause-held
returns-then-eq-clause-held c =
    let zones = c.in_ok-zones.zones.now in
    let zone = c.in_ok-zone.zone.now in
    (zone_held c.args.self.now c.zones.ensures.consistent c.args.name.now c.args.origin.now zones c.args.place zone c.in_ok-zones.ensures.found
    (slice_get_read zones (length zones) c.args.place zone refl c.in_ok-zone.ensures.lookup.3.0 c.in_ok-zone.ensures.lookup.1)
    ((name_eq_decides zone.origin c.args.origin.now).0 (sym c.eq.ensures ∙ c.if-eq.true))).0

pub returns-then-eq-clause-within : goal.returns-then-eq-clause-within
returns-then-eq-clause-within c =
    let zones = c.in_ok-zones.zones.now in
    let zone = c.in_ok-zone.zone.now in
    (zone_held c.args.self.now c.zones.ensures.consistent c.args.name.now c.args.origin.now zones c.args.place zone c.in_ok-zones.ensures.found
    (slice_get_read zones (length zones) c.args.place zone refl c.in_ok-zone.ensures.lookup.3.0 c.in_ok-zone.ensures.lookup.1)
    ((name_eq_decides zone.origin c.args.origin.now).0 (sym c.eq.ensures ∙ c.if-eq.true))).1
