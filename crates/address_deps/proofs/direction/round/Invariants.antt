use Rattle.address_deps.specs.Direction.{IsFair, IsSettledAt, unmoved}
use Rattle.address_deps.proofs.Rounds.{IsRoundAt}
use Rattle.address_deps.proofs.direction.round.Given as goal

-- the servers so far were looked at
abbrev pub invariant-loop-place : goal.invariant-loop-place
invariant-loop-place l =
    IsRoundAt (IsFair l.fn.direction l.hosts l.addresses) (IsSettledAt l.fn.direction l.hosts l.addresses) (unmoved l.fn.direction l.hosts.servers) l.addresses l.waiting l.fn.names
    l.place-index l.names l.next
