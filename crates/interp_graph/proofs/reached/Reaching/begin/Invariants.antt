use Rattle.std.proofs.Common.{◌≡◌, take}
use Rattle.interp_graph.specs.Restricted.{ForOne, Gains}
use Rattle.interp_graph.proofs.reached.Reaching.begin.Given as goal

-- the starts so far
abbrev pub invariant-loop-at : goal.invariant-loop-at
invariant-loop-at l = Gains (ForOne (λ start at rtype. at ≡ start) (take l.at-index l.starts)) l.fn.self l.self
