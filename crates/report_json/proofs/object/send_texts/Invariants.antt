use Rattle.std.proofs.Common.{drop, map}
use Rattle.serde.specs.Event.{Log}
use Rattle.serde_json.specs.Events.{SendsItems}
use Rattle.report_json.specs.Json.{json_items, data_value}
use Rattle.report_json.proofs.object.send_texts.Given as goal

-- whatever ends it well from here ends it well from the start
abbrev pub invariant-loop-one : goal.invariant-loop-one
invariant-loop-one g l =
    (end : Log) → SendsItems (json_items (map data_value (drop l.one-index l.rdata))) (g.S.Serializer.written l.out) end
    → SendsItems (json_items (map data_value l.rdata)) (g.S.Serializer.written l.initial.out) end
