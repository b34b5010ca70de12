use Rattle.std.proofs.Common.{sym, subst}
use Rattle.std.specs.List.Sorted.{IsStrictlySortedBy}
use Rattle.dns_data.specs.Name.{name_cmp}
use Rattle.zone_tree.specs.Tree.{ZoneTree}
use Rattle.zone_lookup.specs.CutTable.{IsZoneRow, ZoneRow}
use Rattle.zone_lookup.proofs.CutTables.{beside_names, row_of_host}
use Rattle.zone_lookup.proofs.cut_table.host_row.Goals as goal

pub invariant_of-result : goal.invariant_of-result
invariant_of-result c =
    subst (IsStrictlySortedBy name_cmp)
    (sym (beside_names (IsZoneRow c.args.hosts.now c.args.sets.now) (λ (t : ZoneTree). t.zone.origin) (λ (z : ZoneRow). z.origin) (λ t z is. is.origin)
    c.in_order.result.now c.in_ok-zones.zones.items c.in_ok-zones.ensures)) c.in_order.ensures.ordered

pub returns : goal.returns
returns c =
    row_of_host c.args.hosts.now c.args.sets.now c.args.host.now c.in_order.result.now
    (record { server = c.name.result.now; zones = c.in_ok-zones.zones.items }) c.name.ensures c.in_order.ensures c.in_ok-zones.ensures
