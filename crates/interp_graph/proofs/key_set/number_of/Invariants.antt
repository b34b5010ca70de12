use Rattle.std.proofs.Common.{◌≡◌, false, take}
use Rattle.std.specs.List.{list_any}
use Rattle.interp_graph.specs.StateKey.{state_eq}
use Rattle.interp_graph.proofs.key_set.number_of.Given as goal

-- the key isn't among those so far
abbrev pub invariant-loop-number : goal.invariant-loop-number
invariant-loop-number l = list_any (state_eq l.key) (take l.number l.keys) ≡ false
