use Rattle.std.proofs.Common.{◌≡◌, ◌<◌, ℕ, length}
use Rattle.interp_graph.specs.Restricted.{LimitedAt, shut_of}
use Rattle.interp_graph.proofs.limited.limited_nodes.Given as goal

-- the nodes so far
abbrev pub invariant-loop-at : goal.invariant-loop-at
invariant-loop-at l = record {
  many : length l.nodes ≡ l.at;
  each : (k : ℕ) → k < l.at → LimitedAt (shut_of l.limits) l.nodes l.sets l.graph.nodes k;
}
