use Rattle.std.proofs.Common.{◌≡◌, ◌++◌, length}
use Rattle.net_model.specs.Reading.{IsNamed}
use Rattle.label_graph.specs.LiveSet.{IsLiveSet}
use Rattle.query_classes.proofs.class.class_of.Given as goal

-- the labels passed make a named name, whose live set is known
abbrev pub invariant-loop-octets : goal.invariant-loop-octets
invariant-loop-octets l = record {
  passed : l.q ≡ l.above.name ++ l.rest;
  live : IsLiveSet l.graph l.above.name l.above.live;
  named : IsNamed l.graph l.above.name;
}

abbrev pub decreases-loop-octets : goal.decreases-loop-octets
decreases-loop-octets l = length l.rest
