use Rattle.std.proofs.Common.{[], ◌∷◌, ◌++◌, take, sym, ap, ◌∙◌, subst}
use Rattle.std.proofs.lemmas.List.{take_more}
use Rattle.std.specs.List.{AllZip}
use Rattle.zone_lookup.specs.CutTable.{IsHostRow}
use Rattle.zone_lookup.proofs.CutTables.{beside_more}
use Rattle.zone_lookup.proofs.cut_table.host_rows.Goals as goal

pub loop-host-preserved : goal.loop-host-preserved
loop-host-preserved c =
    let all = c.in_order-host-items.result.now in
    let i = c.loop-host.host-index in
    let one = c.host-item.result in
    subst (λ xs. AllZip (IsHostRow c.args.hosts.now c.args.sets.now) xs c.push.new.self.items)
    (sym (take_more all i one c.loop-host-test.true ∙ ap (λ x. take i all ++ x ∷ []) (sym c.host-item.is)))
    (subst (λ ys. AllZip (IsHostRow c.args.hosts.now c.args.sets.now) (take i all ++ one ∷ []) ys) (sym c.in_ok-push.ensures.items)
    (beside_more (IsHostRow c.args.hosts.now c.args.sets.now) (take i all) c.loop-host.rows.items one c.in_ok-host_row.field-0 c.loop-host.invariant c.in_ok-host_row.ensures))
