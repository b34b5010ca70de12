use Rattle.std.proofs.Common.{◌≡◌, ◌≤◌, length, map, drop}
use Rattle.std.specs.List.{filter}
use Rattle.dns_data.specs.Rdata.{has_type}
use Rattle.net_model.specs.Order.{in_order}
use Rattle.net_model.specs.Zone.{data_cmp}
use Rattle.zone_tree.proofs.order.placed_data.Given as goal

-- the data of the type among those looked at
abbrev pub invariant-loop-left : goal.invariant-loop-left
invariant-loop-left l = record {
  within : l.left ≤ length l.own;
  items : l.set.items ≡ in_order data_cmp (filter (has_type l.rtype) (map (λ rr. rr.now.rdata) (drop l.left l.own)));
}

abbrev pub decreases-loop-left : goal.decreases-loop-left
decreases-loop-left l = l.left
