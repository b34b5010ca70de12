use Rattle.std.proofs.Common.{◌≡◌, ◌++◌, map, take}
use Rattle.std.specs.List.{flat_map}
use Rattle.address_deps.specs.Dependents.{turn_awaits}
use Rattle.address_deps.proofs.dependents.put_turns.Given as goal

-- those so far
abbrev pub invariant-loop-turn : goal.invariant-loop-turn
invariant-loop-turn l =
    map (λ name. name.now) l.names.items ≡ map (λ name. name.now) l.fn.names.items ++ flat_map turn_awaits (take l.turn-index l.turns)
