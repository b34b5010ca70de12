-- the names that were looked at
use Rattle.std.proofs.Common.{◌≡◌, ◌≤◌, drop, length, map}
use Rattle.dns_data.specs.Name.{name_cmp}
use Rattle.net_model.specs.Order.{in_order}
use Rattle.map_run.proofs.servers.name_set.Given as goal

abbrev pub invariant-loop-left : goal.invariant-loop-left
invariant-loop-left l = record {
  within : l.left ≤ length l.names;
  set : l.set.keys ≡ in_order name_cmp (map (λ name. name.now) (drop l.left l.names));
}

abbrev pub decreases-loop-left : goal.decreases-loop-left
decreases-loop-left l = l.left
