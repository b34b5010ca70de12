use Rattle.std.proofs.Common.{◌≡◌, [], length, drop, map, sym, subst, arith}
use Rattle.std.proofs.lemmas.List.{drop_all, length-map}
use Rattle.std.proofs.lemmas.Result.{on_ok_weaker}
use Rattle.serde_json.specs.Events.{SendsItems}
use Rattle.report_json.specs.Json.{json_items}
use Rattle.report_json.proofs.Sending.{array_sent, left_at}
use Rattle.report_json.proofs.written.send_list.Goals as goal

pub returns : goal.returns
returns g c =
    let value = g.T.Written.value in
    let list = c.args.list.now in
    let first = g.S.Serializer.written c.begin_seq.new.self in
    let end = g.S.Serializer.written c.end_seq.new.self in
    let none : drop c.loop-one.one-index list ≡ [] = drop_all c.loop-one.one-index list (omega arith) in
    on_ok_weaker c.end_seq.result (λ ended. array_sent (map value list) (length list) (g.S.Serializer.written c.args.out.now) first end
    (sym (length-map list value)) c.in_ok-begin_seq.ensures
    (c.loop-one.invariant end (subst (λ left. SendsItems (json_items (map value left)) (g.S.Serializer.written c.loop-one.out) end) (sym none) ended))) c.end_seq.ensures

pub loop-one-preserved : goal.loop-one-preserved
loop-one-preserved g c =
    let value = g.T.Written.value in
    let list = c.args.list.now in
    let i = c.loop-one.one-index in
    let before = g.S.Serializer.written c.loop-one.out in
    λ end rest. c.loop-one.invariant end (subst (λ left. SendsItems (json_items (map value left)) before end)
    (sym (left_at list i c.one-item.result c.loop-one-test.true c.one-item.is))
    (g.S.Serializer.written c.send.new.out, c.in_ok-send.ensures, rest))
