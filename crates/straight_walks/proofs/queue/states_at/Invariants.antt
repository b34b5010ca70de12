use Rattle.std.proofs.Common.{◌≡◌, map, take}
use Rattle.dns_data.specs.Name.{Labels}
use Rattle.straight_walks.specs.Searching.{queued_state, state_at}
use Rattle.straight_walks.proofs.queue.states_at.Given as goal

-- the states at those so far
abbrev pub invariant-loop-server : goal.invariant-loop-server
invariant-loop-server l =
    (query : Labels) → map (queued_state l.hosts query) l.queue.items ≡ map (λ server. state_at l.hosts query server.now 0) (take l.server-index l.servers)
