use Rattle.std.proofs.Common.{◌≡◌, ◌++◌, length}
use Rattle.dns_data.specs.Name.{Labels}
use Rattle.label_graph.specs.LiveSet.{IsLiveSet}
use Rattle.query_classes.proofs.live_name.live_of.Given as goal

-- the live set is that of the labels passed
abbrev pub invariant-loop-octets : goal.invariant-loop-octets
invariant-loop-octets l = (above : Labels) × (l.name ≡ above ++ l.rest) × IsLiveSet l.graph above l.live

abbrev pub decreases-loop-octets : goal.decreases-loop-octets
decreases-loop-octets l = length l.rest
