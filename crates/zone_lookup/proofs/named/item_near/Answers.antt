use Rattle.std.proofs.Common.{◌≡◌, Some, get_or, sym, ap, ◌∙◌}
use Rattle.dns_data.proofs.Names.{name_eq_decides}
use Rattle.zone_lookup.proofs.FirstsByName.{found_in_order}
use Rattle.zone_lookup.proofs.named.item_near.Goals as goal

pub returns-in-Some : goal.returns-in-Some
returns-in-Some g c =
    let name_of = g.T.Named.name_of in
    let items = c.args.items.now in
    let near = c.args.near in
    let item = c.in-Some.item.now in
    let is : get_or items near item ≡ item = sym c.in-Some.ensures.lookup.1 in
    let named = sym c.its_name.ensures ∙ (name_eq_decides c.its_name.result.now c.args.name.now).0 (sym c.eq.ensures ∙ c.if-eq.true) in
    sym (found_in_order name_of c.args.name.now items near item c.requires c.in-Some.ensures.lookup.3.0 (ap name_of is ∙ named) ∙ ap (λ x. Some x) is)
