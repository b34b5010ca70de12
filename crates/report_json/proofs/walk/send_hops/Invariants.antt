use Rattle.std.proofs.Common.{drop}
use Rattle.serde.specs.Event.{Log, WritesEach}
use Rattle.serde_json.specs.Events.{SendsValue}
use Rattle.report_json.specs.Walks.{hop_values}
use Rattle.report_json.proofs.walk.send_hops.Given as goal

-- whatever ends it well from here ends it well from the start
abbrev pub invariant-loop-i : goal.invariant-loop-i
invariant-loop-i g l =
    (end : Log) → WritesEach SendsValue (hop_values (drop l.i l.states) (drop l.i l.hops)) (g.S.Serializer.written l.out) end
    → WritesEach SendsValue (hop_values l.states l.hops) (g.S.Serializer.written l.initial.out) end
