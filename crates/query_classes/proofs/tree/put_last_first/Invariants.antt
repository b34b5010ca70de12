use Rattle.std.proofs.Common.{◌≡◌, ◌++◌, reverse, length}
use Rattle.query_classes.proofs.tree.put_last_first.Given as goal

-- the names left, turned round, come behind those that were put
abbrev pub invariant-loop-last : goal.invariant-loop-last
invariant-loop-last l = l.waiting.items ++ reverse l.names.items ≡ l.initial.waiting.items ++ reverse l.fn.names

abbrev pub decreases-loop-last : goal.decreases-loop-last
decreases-loop-last l = length l.names.items
