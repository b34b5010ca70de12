use Rattle.std.proofs.Common.{drop, map}
use Rattle.serde.specs.Event.{Log}
use Rattle.serde_json.specs.Events.{SendsItems}
use Rattle.report_json.specs.Json.{json_items}
use Rattle.report_json.proofs.written.send_list.Given as goal

-- whatever ends it well from here ends it well from the start
abbrev pub invariant-loop-one : goal.invariant-loop-one
invariant-loop-one g l =
    (end : Log) → SendsItems (json_items (map g.T.Written.value (drop l.one-index l.list))) (g.S.Serializer.written l.out) end
    → SendsItems (json_items (map g.T.Written.value l.list)) (g.S.Serializer.written l.initial.out) end
