use Rattle.std.proofs.Common.{◌≡◌, List, Some, length, slice_get, refl, sym, ap, ◌∙◌}
use Rattle.std.proofs.lemmas.Option.{slice_get_read}
use Rattle.config_load.specs.declared.loaded.RowFiles.{RowFiles}
use Rattle.config_load.proofs.KnownLeft.{known_left}
use Rattle.config_load.proofs.KnownRows.{if_again}
use Rattle.config_load.proofs.earlier.EarlierRow.zone_again.Goals as goal

pub returns-in-Some-clause-reads : goal.returns-in-Some-clause-reads
returns-in-Some-clause-reads c skips meta told left origin_is whole are each =
    let place = c.args.self.row in
    let rows = c.items.result.now in
    let named = c.in-Some.named.now in
    let room = c.has_room.ensures c.if-not-has_room.false in
    let there : slice_get c.args.rows.now.rows place ≡ Some named =
    ap (λ (all : List RowFiles). slice_get all place) (sym c.items.ensures) ∙ slice_get_read rows (length rows) place named refl c.in-Some.ensures.lookup.3.0 c.in-Some.ensures.lookup.1 in
    if_again c.zone_named.result
    (λ read is.
    known_left skips meta told c.args.all.now c.args.row.now left origin_is whole c.args.rows.now are c.args.self named read each (c.is_alike.ensures c.if-not-is_alike.false) there room.0 room.1 is)
    c.zone_named.ensures.is
