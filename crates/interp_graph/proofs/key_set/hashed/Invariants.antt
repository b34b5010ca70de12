use Rattle.std.proofs.Common.{◌≡◌, ◌++◌}
use Rattle.interp_graph.proofs.key_set.hashed.Given as goal

-- the keys so far, and those that are left
abbrev pub invariant-loop-key : goal.invariant-loop-key
invariant-loop-key l = l.table.keys ++ l.key-iterator ≡ l.fn.keys.items
