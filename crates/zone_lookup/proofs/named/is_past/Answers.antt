use Rattle.std.proofs.Common.{◌≡◌, Ordering, subst, arith}
use Rattle.std.specs.List.{HoldsAt}
use Rattle.dns_data.specs.Name.{name_cmp}
use Rattle.zone_lookup.proofs.named.is_past.Goals as goal

pub returns-in-Some-Greater : goal.returns-in-Some-Greater
returns-in-Some-Greater g c = λ yes within.
    subst (λ (order : Ordering). HoldsAt (λ item. name_cmp (g.T.Named.name_of item) c.args.name.now ≡ order) c.args.items.now c.args.place) c.in-Some-Greater.field-0-is c.in-Some-Greater.ensures.order

pub returns-in-None : goal.returns-in-None
returns-in-None g c = λ yes within. absurd (omega (arith, within, c.in-None.ensures.none))
