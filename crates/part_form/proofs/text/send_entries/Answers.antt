use Rattle.std.proofs.Common.{◌≡◌, [], length, drop, map, List, sym, subst, arith}
use Rattle.std.proofs.lemmas.List.{drop_all, length-map}
use Rattle.std.proofs.lemmas.Result.{on_ok_weaker}
use Rattle.serde_json.specs.Events.{SendsItems}
use Rattle.serde_json.specs.View.{view}
use Rattle.report_json.specs.Json.{json_items}
use Rattle.report_json.proofs.Sending.{array_sent}
use Rattle.part_form.specs.declared.entries.StatedEntry.{StatedEntry}
use Rattle.part_form.proofs.text.send_entries.Goals as goal

pub returns : goal.returns
returns g c =
    let value = λ (entry : StatedEntry). view entry.value in
    let list = c.args.entries.now in
    let first = g.S.Serializer.written c.begin_seq.new.self in
    let end = g.S.Serializer.written c.end_seq.new.self in
    let none : drop c.loop-entry.entry-index list ≡ [] = drop_all c.loop-entry.entry-index list (omega arith) in
    on_ok_weaker c.end_seq.result (λ ended. array_sent (map value list) (length list) (g.S.Serializer.written c.args.out.now) first end
    (sym (length-map list value)) c.in_ok-begin_seq.ensures
    (c.loop-entry.invariant end (subst (λ (left : List StatedEntry). SendsItems (json_items (map value left)) (g.S.Serializer.written c.loop-entry.out) end) (sym none) ended))) c.end_seq.ensures
