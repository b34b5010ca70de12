use Rattle.std.proofs.Common.{◌≤◌}
use Rattle.query_verdicts.proofs.OpenNodes.{AreOpenUpTo}
use Rattle.query_verdicts.proofs.open_graph.open_octets.Given as goal

-- the nodes so far are open
abbrev pub invariant-loop-at : goal.invariant-loop-at
invariant-loop-at l = record { within : l.most ≤ 255; each : AreOpenUpTo l.queries.trees l.label l.graph.nodes l.most l.at }
