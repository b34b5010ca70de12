use Rattle.std.proofs.Common.{◌≤◌, length, drop, flat_map}
use Rattle.zone_lookup.specs.Firsts.{ArePut, FindsFirsts}
use Rattle.zone_lookup.proofs.firsts.firsts_by_name.Given as goal

-- the values looked at
abbrev pub invariant-loop-left : goal.invariant-loop-left
invariant-loop-left g l = record {
  within : l.left ≤ length l.all;
  finds : FindsFirsts g.X.MadeOf.tell g.Y.Named.name_of (drop l.left l.all) l.found;
  trees : ArePut (flat_map g.X.MadeOf.zones_of (drop l.left l.all)) l.initial.trees l.trees;
}

abbrev pub decreases-loop-left : goal.decreases-loop-left
decreases-loop-left g l = l.left
