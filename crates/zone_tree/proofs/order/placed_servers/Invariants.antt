use Rattle.std.proofs.Common.{◌≡◌, ◌≤◌, length, map, drop}
use Rattle.dns_data.specs.Name.{name_cmp}
use Rattle.dns_data.specs.declared.rr_type.RrType.TheVariants as types
use Rattle.net_model.specs.Order.{in_order}
use Rattle.zone_tree.specs.Records.{targets_of}
use Rattle.zone_tree.proofs.order.placed_servers.Given as goal

-- the name servers of the data looked at
abbrev pub invariant-loop-left : goal.invariant-loop-left
invariant-loop-left l = record {
  within : l.left ≤ length l.own;
  servers : map (λ server. server.now) l.servers.items ≡ in_order name_cmp (targets_of (map (λ rr. rr.now.rdata) (drop l.left l.own)) types.Ns);
}

abbrev pub decreases-loop-left : goal.decreases-loop-left
decreases-loop-left l = l.left
