use Rattle.std.proofs.Common.{sym, subst, refl}
use Rattle.std.proofs.lemmas.Result.{on_ok_weaker}
use Rattle.serde.specs.Event.{WritesEach}
use Rattle.serde_json.specs.Events.{SendsValue}
use Rattle.report_json.proofs.Walks.{ends_in}
use Rattle.report_json.proofs.walk.send_end.Goals as goal

pub returns-in-Some : goal.returns-in-Some
returns-in-Some g c =
    let old = g.S.Serializer.written c.args.out.now in
    let new = g.S.Serializer.written c.send_leaf.new.out in
    on_ok_weaker c.send_leaf.result (λ sent. subst (λ values. WritesEach SendsValue values old new)
    (sym (ends_in c.args.leaf.now c.args.states.now c.in-Some.state.now (sym c.in-Some.ensures.value))) (new, sent, refl)) c.send_leaf.ensures
