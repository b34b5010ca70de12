use Rattle.std.proofs.Common.{sym, subst}
use Rattle.std.specs.List.Sorted.{IsStrictlySortedBy}
use Rattle.dns_data.specs.Name.{name_cmp}
use Rattle.net_model.specs.declared.config.Server.{Server}
use Rattle.zone_lookup.specs.CutTable.{AreRowsOf, HostRow, IsHostRow}
use Rattle.zone_lookup.proofs.CutTables.{beside_names, table_of_rows}
use Rattle.zone_lookup.proofs.cut_table.CutTable.build.Goals as goal

pub invariant_of-result : goal.invariant_of-result
invariant_of-result c =
    let are : AreRowsOf c.args.hosts.now c.args.sets.now c.in_ok-hosts.hosts.items = c.in_ok-hosts.ensures in
    subst (IsStrictlySortedBy name_cmp)
    (sym (beside_names (IsHostRow c.args.hosts.now c.args.sets.now) (λ (h : Server). h.name) (λ (r : HostRow). r.server) (λ h r is. is.name) are.hosts c.in_ok-hosts.hosts.items are.beside))
    are.are.ordered

pub returns : goal.returns
returns c = table_of_rows c.args.hosts.now c.args.sets.now c.in_ok-hosts.hosts.items c.in_ok-hosts.ensures
