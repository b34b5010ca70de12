use Rattle.interp_graph.specs.Listed.{ForkGoes}
use Rattle.interp_graph.specs.Making.{IsArmOf}
use Rattle.interp_graph.proofs.Listing.{ListedSoFar}
use Rattle.interp_graph.proofs.following.arms.Given as goal

-- the arms of the forks so far
abbrev pub invariant-loop-fork : goal.invariant-loop-fork
invariant-loop-fork l = ListedSoFar ForkGoes IsArmOf l.most l.fn.forks l.fork-iterator l.arms.items l.fn.states l.states
