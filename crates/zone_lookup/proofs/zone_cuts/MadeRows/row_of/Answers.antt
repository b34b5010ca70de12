use Rattle.std.proofs.Common.{List, sym, subst, ◌∙◌}
use Rattle.std.specs.Slice.{IsItemAt}
use Rattle.zone_lookup.specs.CutTable.{ZoneRow}
use Rattle.zone_lookup.proofs.CutTables.{row_at}
use Rattle.zone_lookup.proofs.zone_cuts.MadeRows.row_of.Goals as goal

pub returns-then-is_same : goal.returns-then-is_same
returns-then-is_same c =
    let place = c.in_ok-place.field-0.now in
    row_at c.args.self.now.trees.now c.args.self.now.rows.items place c.in_ok-made.made c.args.tree.now c.get-then-is_same.result c.in_ok-made.ensures.lookup
    (subst (λ (rows : List ZoneRow). IsItemAt rows place c.get-then-is_same.result) c.deref.ensures.value c.get-then-is_same.ensures.lookup)
    (record { names = c.zone-zone.ensures.names; once = c.zone-zone.ensures.once })
    (sym c.zone.ensures.zone ∙ c.is_same.ensures c.if-is_same.true ∙ c.zone-zone.ensures.zone)
