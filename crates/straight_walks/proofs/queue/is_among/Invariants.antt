use Rattle.straight_walks.proofs.queue.is_among.Given as goal

-- one that is it ends the search
abbrev pub invariant-loop-one : goal.invariant-loop-one
invariant-loop-one l = Unit {0}
