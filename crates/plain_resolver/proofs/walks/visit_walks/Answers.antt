use Rattle.std.proofs.Common.{◌≡◌, ◌+◌, ◌∷◌, List, map, length, sym, ap, ◌∙◌, subst, arith, rules}
use Rattle.std.specs.List.{AllByRecursion, flat_map, fold}
use Rattle.std.proofs.lemmas.List.{length-append}
use Rattle.std.proofs.lemmas.List.Sums.{fold-append}
use Rattle.net_model.specs.declared.walk.State.{State}
use Rattle.net_model.specs.declared.walk.Walk.{Walk}
use Rattle.net_model.proofs.AllWalks.{Settled}
use Rattle.plain_resolver.specs.Asked.{begins}
use Rattle.plain_resolver.specs.Begun.{Begun, led_along, states_left, walks_on}
use Rattle.plain_resolver.proofs.AskedWalks.{are_asked, begins_settled, has_more_asked, has_no_more_asked}
use Rattle.plain_resolver.proofs.ShownWalks.{nothing, along_nothing}
use Rattle.plain_resolver.proofs.walks.visit_walks.Goals as goal

pub loop-state-init : goal.loop-state-init
loop-state-init g c =
    let asked = c.args.resolver.now in
    let on = walks_on asked nothing in
    let states : c.into_iter-state-iterator.result ≡ begins asked.setting asked.query asked.server =
    c.into_iter-state-iterator.ensures.into_iter_gives.0 ∙ c.in_ok-state-items.ensures in
    record {
      begun = c.new-begun.ensures;
      shown = ap (λ (left : List State). fold g.V.WalkVisitor.after c.args.visitor.now (flat_map on left)) states;
      room = ap (λ (left : List State). c.args.most + length (flat_map on left)) (sym states);
      settled = subst (AllByRecursion (Settled (states_left asked nothing) asked.setting asked.rtype)) (sym states) (begins_settled asked);
    }

pub visit_from-requires : goal.visit_from-requires
visit_from-requires g c =
    let asked = c.args.resolver.now in
    let inv = c.loop-state.invariant in
    let both = subst (AllByRecursion (Settled (states_left asked nothing) asked.setting asked.rtype)) c.in-Some.ensures.steps inv.settled in
    subst (λ (b : Begun). Settled (states_left asked b) asked.setting asked.rtype c.in-Some.state) (sym inv.begun) both.0

pub loop-state-preserved : goal.loop-state-preserved
loop-state-preserved g c =
    let after = g.V.WalkVisitor.after in
    let asked = c.args.resolver.now in
    let on = walks_on asked nothing in
    let state = c.in-Some.state in
    let rest = c.next.new.self in
    let visitor = c.loop-state.visitor in
    let inv = c.loop-state.invariant in
    let opened : c.loop-state.state-iterator ≡ state ∷ rest = c.in-Some.ensures.steps in
    let shown : c.visit_from.new.visitor ≡ fold after visitor (on state) =
    c.in_ok-visit_from.ensures.shown
    ∙ ap (λ (b : Begun). fold after visitor (map (led_along b) (walks_on asked b state))) inv.begun
    ∙ ap (λ (ws : List Walk). fold after visitor ws) (along_nothing (on state)) in
    let both = subst (AllByRecursion (Settled (states_left asked nothing) asked.setting asked.rtype)) opened inv.settled in
    record {
      begun = c.in_ok-visit_from.ensures.begun ∙ inv.begun;
      shown =
          ap (λ v. fold after v (flat_map on rest)) shown
          ∙ sym (fold-append after visitor (on state) (flat_map on rest))
          ∙ ap (λ (states : List State). fold after visitor (flat_map on states)) (sym opened)
          ∙ inv.shown;
      room =
          omega (
            arith,
            inv.room,
            c.in_ok-visit_from.ensures.room,
            ap (λ (b : Begun). length (walks_on asked b state)) inv.begun,
            ap (λ (states : List State). length (flat_map on states)) opened,
            length-append (on state) (flat_map on rest),
          );
      settled = both.1;
    }

pub returns-in_err-visit_from-clause-passed : goal.returns-in_err-visit_from-clause-passed
returns-in_err-visit_from-clause-passed g c = λ is.
    let asked = c.args.resolver.now in
    let on = walks_on asked nothing in
    let state = c.in-Some.state in
    let rest = c.next.new.self in
    let inv = c.loop-state.invariant in
    has_more_asked asked c.args.most
    (omega (
      arith,
      inv.room,
      c.in_err-visit_from.ensures.passed (search rules),
      ap (λ (b : Begun). length (walks_on asked b state)) inv.begun,
      ap (λ (states : List State). length (flat_map on states)) c.in-Some.ensures.steps,
      length-append (on state) (flat_map on rest),
    ))

pub returns-clause-shown : goal.returns-clause-shown
returns-clause-shown g c =
    let after = g.V.WalkVisitor.after in
    let asked = c.args.resolver.now in
    let on = walks_on asked nothing in (
      flat_map on (begins asked.setting asked.query asked.server),
      are_asked asked,
      ap (λ (states : List State). fold after c.loop-state.visitor (flat_map on states)) (sym c.in-None.ensures.steps.0) ∙ c.loop-state.invariant.shown,
    )

pub returns-clause-few : goal.returns-clause-few
returns-clause-few g c =
    let asked = c.args.resolver.now in
    let on = walks_on asked nothing in
    has_no_more_asked asked c.args.most
    (omega (arith, c.loop-state.invariant.room, ap (λ (states : List State). length (flat_map on states)) c.in-None.ensures.steps.0))
