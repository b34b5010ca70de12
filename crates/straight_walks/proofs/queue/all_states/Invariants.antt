use Rattle.std.proofs.Common.{◌≡◌, map, take}
use Rattle.dns_data.specs.Name.{Labels}
use Rattle.net_model.specs.Step.{arrived}
use Rattle.straight_walks.specs.Searching.{queued_state}
use Rattle.straight_walks.proofs.queue.all_states.Given as goal
use Rattle.std.proofs.Common.{true, None}

-- the states at those so far
abbrev pub invariant-loop-top : goal.invariant-loop-top
invariant-loop-top l =
    (query : Labels) → map (queued_state l.hosts query) l.queue.items ≡ map (arrived l.hosts query true 0 None) (take l.top-index l.top-items)
