use Rattle.std.proofs.Common.{Some, Ok, Err, sym, ap, ◌∙◌}
use Rattle.zone_lookup.proofs.FirstsByName.{found_by}
use Rattle.zone_lookup.proofs.named.item_named.Goals as goal

pub returns-in-Ok : goal.returns-in-Ok
returns-in-Ok g c =
    sym (found_by g.T.Named.name_of c.args.name.now c.args.items.now (Ok c.in-Ok.place) c.requires c.in-Ok.ensures.range
    c.in-Ok.ensures.position c.index-items-place.result
    ∙ ap (λ item. Some item) (sym c.index-items-place.is))

pub returns-in-Err : goal.returns-in-Err
returns-in-Err g c =
    sym (found_by g.T.Named.name_of c.args.name.now c.args.items.now (Err c.in-Err.field-0) c.requires c.in-Err.ensures.range
    c.in-Err.ensures.position)
