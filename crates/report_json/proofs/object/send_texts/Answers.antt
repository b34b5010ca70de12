use Rattle.std.proofs.Common.{◌≡◌, [], length, drop, map, sym, subst, arith}
use Rattle.std.proofs.lemmas.List.{drop_all, length-map}
use Rattle.std.proofs.lemmas.Result.{on_ok_weaker}
use Rattle.serde_json.specs.Events.{SendsItems}
use Rattle.report_json.specs.Json.{json_items, data_value}
use Rattle.report_json.proofs.Sending.{array_sent}
use Rattle.report_json.proofs.object.send_texts.Goals as goal

pub returns : goal.returns
returns g c =
    let rdata = c.args.rdata.now in
    let first = g.S.Serializer.written c.begin_seq.new.self in
    let end = g.S.Serializer.written c.end_seq.new.self in
    let none : drop c.loop-one.one-index rdata ≡ [] = drop_all c.loop-one.one-index rdata (omega arith) in
    on_ok_weaker c.end_seq.result (λ ended. array_sent (map data_value rdata) (length rdata) (g.S.Serializer.written c.args.out.now) first end
    (sym (length-map rdata data_value)) c.in_ok-begin_seq.ensures
    (c.loop-one.invariant end (subst (λ left. SendsItems (json_items (map data_value left)) (g.S.Serializer.written c.loop-one.out) end) (sym none) ended))) c.end_seq.ensures
