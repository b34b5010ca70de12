use Rattle.std.proofs.Common.{◌≡◌, Some}
use Rattle.std.specs.Prelude.{slice_get}
use Rattle.interp_graph.proofs.Listing.{ListedSoFar}
use Rattle.interp_graph.proofs.building.numbered.Given as goal

-- the numbers of the states so far
abbrev pub invariant-loop-state : goal.invariant-loop-state
invariant-loop-state l =
    ListedSoFar (λ state one. state ≡ one) (λ states at state. slice_get states at ≡ Some state) l.most l.fn.begin l.state-iterator l.numbers l.fn.states l.states
