use Rattle.std.proofs.Common.{drop, map}
use Rattle.serde.specs.Event.{Log}
use Rattle.serde_json.specs.Events.{SendsItems}
use Rattle.serde_json.specs.View.{view}
use Rattle.report_json.specs.Json.{json_items}
use Rattle.part_form.proofs.text.send_entries.Given as goal

-- whatever ends it well from here ends it well from the start
abbrev pub invariant-loop-entry : goal.invariant-loop-entry
invariant-loop-entry g l =
    (end : Log) → SendsItems (json_items (map (λ entry. view entry.value) (drop l.entry-index l.entries))) (g.S.Serializer.written l.out) end
    → SendsItems (json_items (map (λ entry. view entry.value) l.entries)) (g.S.Serializer.written l.initial.out) end
