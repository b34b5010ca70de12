use Rattle.std.proofs.Common.{◌≡◌, take}
use Rattle.plain_resolver.proofs.begun.copied_states.Given as goal

-- copies of the states so far
abbrev pub invariant-loop-state : goal.invariant-loop-state
invariant-loop-state l = l.copies ≡ take l.state-index l.states
