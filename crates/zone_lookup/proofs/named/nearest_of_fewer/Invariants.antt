use Rattle.std.proofs.Common.{◌≤◌, length}
use Rattle.zone_lookup.specs.Named.{item_named, NoneFrom}
use Rattle.zone_lookup.proofs.named.nearest_of_fewer.Given as goal

-- no item has a longer name
abbrev pub invariant-loop-count : goal.invariant-loop-count
invariant-loop-count g l = record {
  within : l.count ≤ length l.name;
  none : NoneFrom (item_named g.T.Named.name_of l.items) l.name (length l.name) l.count;
}

abbrev pub decreases-loop-count : goal.decreases-loop-count
decreases-loop-count g l = l.count
