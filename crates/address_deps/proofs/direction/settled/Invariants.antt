use Rattle.std.proofs.Common.{◌+◌, ◌==◌, length}
use Rattle.address_deps.specs.Direction.{IsRoundOf, unmoved}
use Rattle.address_deps.specs.Giving.{unset}
use Rattle.address_deps.proofs.direction.settled.Given as goal

abbrev pub invariant-loop-alloc : goal.invariant-loop-alloc
invariant-loop-alloc l = IsRoundOf l.fn.direction l.hosts l.addresses l.names l.waiting

-- those that may still be added or dropped, and that some wait
abbrev pub decreases-loop-alloc : goal.decreases-loop-alloc
decreases-loop-alloc l = unmoved l.fn.direction l.hosts.servers l.names + unmoved l.fn.direction l.hosts.servers l.names + unset (length l.waiting == 0)
