use Rattle.std.proofs.Common.{◌≡◌, ◌++◌, refl, subst}
use Rattle.std.proofs.lemmas.Result.{on_ok_weaker}
use Rattle.serde_json.specs.Events.{SendsValue}
use Rattle.report_json.specs.Json.{array_of}
use Rattle.report_json.specs.Walks.{hop_values, end_values}
use Rattle.report_json.proofs.Sending.{array_sent, items_sent, each_sent}
use Rattle.report_json.proofs.walk.send_walk.Goals as goal

pub returns : goal.returns
returns g c =
    let states = c.items-states.result.now in
    let hops = c.items-hops.result.now in
    let leaf = c.args.walk.now.leaf in
    let old = g.S.Serializer.written c.args.out.now in
    let first = g.S.Serializer.written c.begin_seq.new.self in
    let mid = g.S.Serializer.written c.send_hops.new.out in
    let told = g.S.Serializer.written c.send_end.new.out in
    let end = g.S.Serializer.written c.end_seq.new.self in
    let same : array_of (hop_values states hops ++ end_values leaf states)
    ≡ array_of (hop_values c.args.walk.now.states c.args.walk.now.hops ++ end_values leaf c.args.walk.now.states) = rw (c.items-states.ensures, c.items-hops.ensures) refl in
    on_ok_weaker c.end_seq.result (λ ended. subst (λ value. SendsValue value old end) same
    (array_sent (hop_values states hops ++ end_values leaf states) c.step_count.result old first end
    (c.step_count.ensures leaf) c.in_ok-begin_seq.ensures
    (items_sent (hop_values states hops ++ end_values leaf states) first told end
    (each_sent (hop_values states hops) (end_values leaf states) first mid told c.in_ok-send_hops.ensures c.in_ok-send_end.ensures) ended))) c.end_seq.ensures
