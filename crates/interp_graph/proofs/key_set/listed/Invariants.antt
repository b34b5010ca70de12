use Rattle.std.proofs.Common.{◌≡◌, ◌++◌}
use Rattle.interp_graph.proofs.key_set.listed.Given as goal

-- the keys so far, and those that are left
abbrev pub invariant-loop-key : goal.invariant-loop-key
invariant-loop-key l = l.list.items ++ l.key-iterator ≡ l.fn.keys.keys
