use Rattle.std.proofs.Common.{[], ◌∷◌, ◌++◌, take, sym, ap, ◌∙◌, subst}
use Rattle.std.proofs.lemmas.List.{take_more}
use Rattle.std.specs.List.{AllZip}
use Rattle.zone_lookup.specs.CutTable.{IsZoneRow}
use Rattle.zone_lookup.proofs.CutTables.{beside_more}
use Rattle.zone_lookup.proofs.zone_cuts.zone_rows.Goals as goal

pub loop-tree-preserved : goal.loop-tree-preserved
loop-tree-preserved c =
    let all = c.args.trees.now in
    let i = c.loop-tree.tree-index in
    let one = c.tree-item.result in
    subst (λ xs. AllZip (IsZoneRow c.args.hosts.now c.args.sets.now) xs c.push.new.self.items)
    (sym (take_more all i one c.loop-tree-test.true ∙ ap (λ x. take i all ++ x ∷ []) (sym c.tree-item.is)))
    (subst (λ ys. AllZip (IsZoneRow c.args.hosts.now c.args.sets.now) (take i all ++ one ∷ []) ys) (sym c.in_ok-push.ensures.items)
    (beside_more (IsZoneRow c.args.hosts.now c.args.sets.now) (take i all) c.loop-tree.rows.items one c.in_ok-zone_row.field-0 c.loop-tree.invariant c.in_ok-zone_row.ensures))
