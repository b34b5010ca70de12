use Rattle.std.proofs.Common.{◌≡◌, ◌+◌, Ordering, subst}
use Rattle.std.specs.List.{HoldsAt}
use Rattle.dns_data.specs.Name.{name_cmp}
use Rattle.zone_lookup.proofs.PlacesNear.{behind_last, between_two}
use Rattle.zone_lookup.proofs.named.place_behind.Goals as goal

pub returns-in-Some-Greater-clause-position : goal.returns-in-Some-Greater-clause-position
returns-in-Some-Greater-clause-position g c =
    let items = c.args.items.now in
    between_two (λ item. name_cmp (g.T.Named.name_of item) c.args.name.now) items c.args.before c.requires.within c.requires.before
    (subst (λ (order : Ordering). HoldsAt (λ item. name_cmp (g.T.Named.name_of item) c.args.name.now ≡ order) items (c.args.before + 1)) c.in-Some-Greater.field-0-is c.in-Some-Greater.ensures.order)

pub returns-in-None-clause-position : goal.returns-in-None-clause-position
returns-in-None-clause-position g c =
    behind_last (λ item. name_cmp (g.T.Named.name_of item) c.args.name.now) c.args.items.now c.args.before c.requires.within c.requires.before c.in-None.ensures.none
