use Rattle.std.proofs.Common.{◌≡◌, ◌++◌, map, slice_get, sym, ◌∙◌, ap, set}
use Rattle.std.proofs.lemmas.List.{append-nil, nil_from_length}
use Rattle.std.specs.Vec.Iter.{into_iter_items}
use Rattle.std.proofs.lemmas.Option.{get_or_from_slice_get}
use Rattle.verdict_book.specs.Keeping.{new_row, rows_filed}
use Rattle.verdict_book.specs.declared.row.Row.{Row}
use Rattle.verdict_book.specs.declared.row.TicketState.TheVariants.{Filed}
use Rattle.verdict_book.proofs.Places.{if_some}
use Rattle.verdict_book.proofs.Keeping.{row_in}
use Rattle.verdict_book.proofs.row.file_row.Goals as goal

pub returns : goal.returns
returns g c =
    let rows = c.args.rows.now.items in
    let place = c.args.place in
    let filed = Filed c.args.verdict in
    let empty = nil_from_length (into_iter_items c.loop-item.item-iterator) (sym c.loop-item.invariant.2 ∙ c.in-None.ensures.steps.0) in
    let left = sym (ap (λ l. c.loop-item.rows.items ++ map new_row l) empty ∙ append-nil c.loop-item.rows.items) in
    let kids = ap (λ l. set rows place (row_in c.index_mut.result.now.item filed) ++ map new_row l) (c.into_iter-item-iterator.ensures.into_iter_gives.0 ∙ c.into_vec-item-items.ensures) in
    if_some (slice_get rows place) (λ row. c.loop-item.rows.items ≡ rows_filed rows place c.args.verdict c.args.children row) (λ row at.
    let row_is = c.index_mut.ensures.value ∙ get_or_from_slice_get rows place row _ at in
    left ∙ c.loop-item.invariant.0 ∙ kids ∙ ap (λ (r : Row g.row.I.Denot g.row.V.Denot). set rows place (row_in r.item filed) ++ map new_row c.args.children) row_is)
