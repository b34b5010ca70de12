use Rattle.std.proofs.Common.{◌≡◌, false, take}
use Rattle.std.specs.List.{list_any}
use Rattle.same_answers.specs.Ends.{node_overlong}
use Rattle.same_answers.proofs.ends.ends_overlong.Given as goal

-- no node so far does
abbrev pub invariant-loop-i : goal.invariant-loop-i
invariant-loop-i l = list_any (node_overlong l.fn.rtype) (take l.i l.graph.nodes) ≡ false
