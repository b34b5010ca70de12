use Rattle.std.proofs.Common.{◌-◌, length}
use Rattle.label_graph.proofs.LedPlaces.{ClosesUp}
use Rattle.label_graph.proofs.closing.closed.Given as goal

-- the list has what the rows of those passed have
abbrev pub invariant-loop-passed : goal.invariant-loop-passed
invariant-loop-passed l = ClosesUp l.reads l.places l.found l.passed

abbrev pub decreases-loop-passed : goal.decreases-loop-passed
decreases-loop-passed l = length l.reads - l.passed
