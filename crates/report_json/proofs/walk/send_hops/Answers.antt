use Rattle.std.proofs.Common.{◌≡◌, [], drop, refl, sym, subst, arith}
use Rattle.std.proofs.lemmas.List.{drop_all}
use Rattle.serde.specs.Event.{WritesEach}
use Rattle.serde_json.specs.Events.{SendsValue}
use Rattle.report_json.proofs.Walks.{no_hops}
use Rattle.report_json.proofs.walk.send_hops.Goals as goal

pub returns : goal.returns
returns g c =
    let out = g.S.Serializer.written c.loop-i.out in
    let none : drop c.loop-i.i c.args.hops.now ≡ [] = drop_all c.loop-i.i c.args.hops.now (omega arith) in
    c.loop-i.invariant out (subst (λ values. WritesEach SendsValue values out out) (sym (no_hops (drop c.loop-i.i c.args.states.now) _ none)) refl)
