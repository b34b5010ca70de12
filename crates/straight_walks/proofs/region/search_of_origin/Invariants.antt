use Rattle.std.proofs.Common.{◌-◌}
use Rattle.straight_walks.proofs.RegionSearch.{AreLookedAt}
use Rattle.straight_walks.proofs.region.search_of_origin.Given as goal

-- the states so far are looked at
abbrev pub invariant-loop-at : goal.invariant-loop-at
invariant-loop-at l = AreLookedAt l.hosts l.sets l.origin l.at l.search

abbrev pub decreases-loop-at : goal.decreases-loop-at
decreases-loop-at l = l.most - l.at
