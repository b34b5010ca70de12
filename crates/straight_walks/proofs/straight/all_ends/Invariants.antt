use Rattle.std.proofs.Common.{◌-◌}
use Rattle.straight_walks.specs.Searching.{HavePassed}
use Rattle.straight_walks.proofs.straight.all_ends.Given as goal

-- walks go straight from the states passed, and what they end in there is told
abbrev pub invariant-loop-alloc : goal.invariant-loop-alloc
invariant-loop-alloc l = HavePassed l.asked.hosts.now l.asked.sets.now l.asked.name.now l.queue l.passed l.ends

abbrev pub decreases-loop-alloc : goal.decreases-loop-alloc
decreases-loop-alloc l = l.limits.states - l.passed
