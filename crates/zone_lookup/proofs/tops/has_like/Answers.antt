use Rattle.std.proofs.Common.{List, Bor, sym, ap, ◌∙◌}
use Rattle.dns_data.specs.Name.{Labels}
use Rattle.dns_data.proofs.Membership.{map_has}
use Rattle.net_model.specs.declared.config.Zone.{Zone}
use Rattle.zone_lookup.specs.Tops.{nearest_among}
use Rattle.zone_lookup.proofs.tops.has_like.Goals as goal

pub returns-then-are_same : goal.returns-then-are_same
returns-then-are_same c = λ yes.
    let top = c.in-Some-get.top.now in (
      top.now,
      map_has (λ (t : Bor Labels). t.now) c.args.tops.now top (_, c.in-Some-get.ensures.lookup.3.0, sym c.in-Some-get.ensures.lookup.1),
      λ name.
          c.zones_of.ensures.nearest name ∙ ap (λ (zones : List Zone). nearest_among zones name) (c.are_same.ensures c.if-are_same.true)
          ∙ sym (c.zones_of-zones.ensures.nearest name),
    )
