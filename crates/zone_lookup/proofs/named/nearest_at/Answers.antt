use Rattle.std.proofs.Common.{◌≡◌, ◌+◌, ◌<◌, true, length, Greater, sym, ap, ◌∙◌, subst}
use Rattle.std.specs.List.{HoldsAt}
use Rattle.dns_data.specs.Name.{Labels, is_prefix, name_cmp}
use Rattle.zone_lookup.proofs.NearestHere.{nearest_here}
use Rattle.zone_lookup.proofs.named.nearest_at.Goals as goal

pub returns-then-is_past : goal.returns-then-is_past
returns-then-is_past g c =
    let name_of = g.T.Named.name_of in
    let items = c.args.items.now in
    let name = c.args.name.now in
    let item = c.in-Some.item.now in
    let inside : is_prefix (name_of item) name ≡ true =
    ap (λ (n : Labels). is_prefix n name) (sym c.its_name.ensures) ∙ (sym c.is_prefix_of.ensures.value ∙ c.if-is_prefix_of.true) in
    nearest_here name_of items c.requires name c.args.near item c.in-Some.ensures.lookup.3.0 c.in-Some.ensures.lookup.1 inside
    (subst (λ (n : Labels). c.args.near + 1 < length items → HoldsAt (λ item. name_cmp (name_of item) n ≡ Greater) items (c.args.near + 1)) c.labels.ensures.same
    (c.is_past.ensures c.if-is_past.true))
