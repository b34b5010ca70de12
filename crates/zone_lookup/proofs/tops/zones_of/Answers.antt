use Rattle.std.proofs.Common.{◌≡◌, List, map, sym, ap, ◌∙◌, subst}
use Rattle.dns_data.specs.Name.{Labels}
use Rattle.net_model.specs.Nearest.{nearest_of}
use Rattle.net_model.specs.declared.config.Server.{Server}
use Rattle.net_model.specs.declared.config.Zone.{Zone}
use Rattle.zone_lookup.specs.Tops.{HoldsThese, nearest_among}
use Rattle.zone_lookup.proofs.LikeTops.{nearest_held, nearest_unnamed}
use Rattle.zone_lookup.proofs.TopsHolding.{none_held, zones_held}
use Rattle.zone_lookup.proofs.tops.zones_of.Goals as goal

pub returns-in-Some-clause-origins : goal.returns-in-Some-clause-origins
returns-in-Some-clause-origins c =
    subst (λ (zones : List Zone). HoldsThese c.args.hosts.now c.args.name.now (map (λ (zone : Zone). zone.origin) zones))
    (sym (c.items.ensures ∙ ap (λ (server : Server). server.zones) c.server.ensures))
    (zones_held c.args.hosts.now c.args.name.now c.in-Some.host.now (sym c.in-Some.ensures))

pub returns-in-Some-clause-nearest : goal.returns-in-Some-clause-nearest
returns-in-Some-clause-nearest c =
    subst (λ (zones : List Zone). (asked : Labels) → nearest_of c.args.hosts.now c.args.name.now asked ≡ nearest_among zones asked)
    (sym (c.items.ensures ∙ ap (λ (server : Server). server.zones) c.server.ensures))
    (nearest_held c.args.hosts.now c.args.name.now c.in-Some.host.now (sym c.in-Some.ensures))

pub returns-in-None-clause-origins : goal.returns-in-None-clause-origins
returns-in-None-clause-origins c = none_held c.args.hosts.now c.args.name.now (sym c.in-None.ensures)

pub returns-in-None-clause-nearest : goal.returns-in-None-clause-nearest
returns-in-None-clause-nearest c = nearest_unnamed c.args.hosts.now c.args.name.now (sym c.in-None.ensures)
