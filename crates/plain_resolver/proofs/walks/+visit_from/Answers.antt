use Rattle.std.proofs.Common.{◌≡◌, ◌<◌, ◌+◌, ◌++◌, ◌∷◌, List, [], map, length, sym, ap, ◌∙◌, subst, arith, rules}
use Rattle.std.specs.List.{AllByRecursion, fold}
use Rattle.net_model.specs.declared.walk.Walk.{Walk}
use Rattle.net_model.specs.Step.{Branch, Go, End, next}
use Rattle.net_model.proofs.AllWalks.{LeadsTo, Settled}
use Rattle.zone_lookup.specs.declared.steps.Step.{Step}
use Rattle.zone_lookup.specs.Steps.{branch_of}
use Rattle.plain_resolver.specs.Begun.{Begun, led_along, ended, states_left, walks_on}
use Rattle.plain_resolver.proofs.ShownWalks.{entered, gone, by_branches, fewer_left, branches_settled, walks_by_branches, count_going, shown_going, shown_ending}
use Rattle.plain_resolver.proofs.walks.+visit_from.Goals as goal

pub loop-step-init : goal.loop-step-init
loop-step-init g t c =
    let asked = c.args.resolver.now in
    let begun = c.args.begun.now in
    let state = c.args.state in
    let on = walks_on asked (entered begun state) in
    let steps : map branch_of c.into_iter-step-iterator.result ≡ next asked.setting asked.rtype state =
    ap (map branch_of) c.into_iter-step-iterator.ensures.into_iter_gives.0
    ∙ (c.in_ok-steps.ensures ∙ ap (next asked.setting asked.rtype) c.get.ensures) in
    record {
      begun = c.in_ok-enter.ensures;
      shown = ap (λ (branches : List Branch). fold g.V.WalkVisitor.after c.args.visitor.now (map (led_along begun) (by_branches begun state on branches))) steps;
      room = ap (λ (branches : List Branch). c.args.room.now + length (by_branches begun state on branches)) (sym steps);
      settled =
          subst (AllByRecursion (LeadsTo (Settled (states_left asked (entered begun state)) asked.setting asked.rtype))) (sym steps)
          (branches_settled asked begun state c.requires);
    }

pub visit_from-requires : goal.visit_from-requires
visit_from-requires g t c =
    let asked = c.args.resolver.now in
    let begun = c.args.begun.now in
    let state = c.args.state in
    let hop = c.in-Go.hop in
    let to = c.in-Go.to in
    let rest = map branch_of c.next.new.self in
    let inv = c.loop-step.invariant in
    let opened : map branch_of c.loop-step.step-iterator ≡ Go hop to ∷ rest =
    ap (map branch_of) c.in-Some.ensures.steps ∙ ap (λ (s : Step). branch_of s ∷ rest) c.in-Go.is in
    let went : c.go.new.self ≡ gone begun state hop =
    c.in_ok-go-in-Go.ensures ∙ ap (λ (b : Begun). record { states = b.states; hops = b.hops ++ hop ∷ [] }) inv.begun in
    let both = subst (AllByRecursion (LeadsTo (Settled (states_left asked (entered begun state)) asked.setting asked.rtype))) opened inv.settled in
    let fewer : states_left asked c.go.new.self < states_left asked begun =
    subst (λ (b : Begun). states_left asked b < states_left asked begun) (sym went) (fewer_left asked begun state c.requires) in
    let settled : Settled (states_left asked c.go.new.self) asked.setting asked.rtype to =
    subst (λ (b : Begun). Settled (states_left asked b) asked.setting asked.rtype to) (sym went) both.0 in
    search rules

pub loop-step-preserved-in-Go : goal.loop-step-preserved-in-Go
loop-step-preserved-in-Go g t c =
    let after = g.V.WalkVisitor.after in
    let asked = c.args.resolver.now in
    let begun = c.args.begun.now in
    let state = c.args.state in
    let on = walks_on asked (entered begun state) in
    let hop = c.in-Go.hop in
    let to = c.in-Go.to in
    let rest = map branch_of c.next.new.self in
    let inv = c.loop-step.invariant in
    let opened : map branch_of c.loop-step.step-iterator ≡ Go hop to ∷ rest =
    ap (map branch_of) c.in-Some.ensures.steps ∙ ap (λ (s : Step). branch_of s ∷ rest) c.in-Go.is in
    let went : c.go.new.self ≡ gone begun state hop =
    c.in_ok-go-in-Go.ensures ∙ ap (λ (b : Begun). record { states = b.states; hops = b.hops ++ hop ∷ [] }) inv.begun in
    let back : c.visit_from.new.begun ≡ gone begun state hop = c.in_ok-visit_from-in-Go.ensures.begun ∙ went in
    let both = subst (AllByRecursion (LeadsTo (Settled (states_left asked (entered begun state)) asked.setting asked.rtype))) opened inv.settled in
    record {
      begun =
          c.back.ensures begun.hops hop (ap (λ (b : Begun). b.hops) back)
          ∙ ap (λ (b : Begun). record { states = b.states; hops = begun.hops }) back;
      shown =
          shown_going begun state on after c.loop-step.visitor c.visit_from.new.visitor _ hop to rest
          (ap (λ (branches : List Branch). fold after c.loop-step.visitor (map (led_along begun) (by_branches begun state on branches))) (sym opened) ∙ inv.shown)
          (c.in_ok-visit_from-in-Go.ensures.shown ∙ ap (λ (b : Begun). fold after c.loop-step.visitor (map (led_along b) (walks_on asked b to))) went);
      room =
          omega (
            arith,
            inv.room,
            c.in_ok-visit_from-in-Go.ensures.room,
            ap (λ (b : Begun). length (walks_on asked b to)) went,
            ap (λ (branches : List Branch). length (by_branches begun state on branches)) opened,
            count_going begun state on hop to rest,
          );
      settled = both.1;
    }

pub loop-step-preserved : goal.loop-step-preserved
loop-step-preserved g t c =
    let after = g.V.WalkVisitor.after in
    let asked = c.args.resolver.now in
    let begun = c.args.begun.now in
    let state = c.args.state in
    let on = walks_on asked (entered begun state) in
    let hop = c.in-End.hop in
    let leaf = c.in-End.leaf in
    let rest = map branch_of c.next.new.self in
    let inv = c.loop-step.invariant in
    let opened : map branch_of c.loop-step.step-iterator ≡ End hop leaf ∷ rest =
    ap (map branch_of) c.in-Some.ensures.steps ∙ ap (λ (s : Step). branch_of s ∷ rest) c.in-End.is in
    let both = subst (AllByRecursion (LeadsTo (Settled (states_left asked (entered begun state)) asked.setting asked.rtype))) opened inv.settled in
    record {
      begun = inv.begun;
      shown =
          shown_ending begun state on after c.loop-step.visitor c.visit_end.new.visitor _ hop leaf rest
          (ap (λ (branches : List Branch). fold after c.loop-step.visitor (map (led_along begun) (by_branches begun state on branches))) (sym opened) ∙ inv.shown)
          (c.in_ok-visit_end-in-End.ensures.shown ∙ ap (λ (b : Begun). after c.loop-step.visitor (ended b hop leaf)) inv.begun);
      room = omega (arith, inv.room, c.in_ok-visit_end-in-End.ensures.room, ap (λ (branches : List Branch). length (by_branches begun state on branches)) opened);
      settled = both.1;
    }

pub returns-in_err-visit_from-in-Go-clause-passed : goal.returns-in_err-visit_from-in-Go-clause-passed
returns-in_err-visit_from-in-Go-clause-passed g t c = λ is.
    let asked = c.args.resolver.now in
    let begun = c.args.begun.now in
    let state = c.args.state in
    let on = walks_on asked (entered begun state) in
    let hop = c.in-Go.hop in
    let to = c.in-Go.to in
    let rest = map branch_of c.next.new.self in
    let inv = c.loop-step.invariant in
    let opened : map branch_of c.loop-step.step-iterator ≡ Go hop to ∷ rest =
    ap (map branch_of) c.in-Some.ensures.steps ∙ ap (λ (s : Step). branch_of s ∷ rest) c.in-Go.is in
    let went : c.go.new.self ≡ gone begun state hop =
    c.in_ok-go-in-Go.ensures ∙ ap (λ (b : Begun). record { states = b.states; hops = b.hops ++ hop ∷ [] }) inv.begun in
    subst (λ (ws : List Walk). c.args.room.now < length ws) (walks_by_branches asked begun state c.requires)
    (omega (
      arith,
      inv.room,
      c.in_err-visit_from-in-Go.ensures.passed (search rules),
      ap (λ (b : Begun). length (walks_on asked b to)) went,
      ap (λ (branches : List Branch). length (by_branches begun state on branches)) opened,
      count_going begun state on hop to rest,
    ))

pub returns-in_err-visit_end-in-End-clause-passed : goal.returns-in_err-visit_end-in-End-clause-passed
returns-in_err-visit_end-in-End-clause-passed g t c = λ is.
    let asked = c.args.resolver.now in
    let begun = c.args.begun.now in
    let state = c.args.state in
    let on = walks_on asked (entered begun state) in
    let hop = c.in-End.hop in
    let leaf = c.in-End.leaf in
    let rest = map branch_of c.next.new.self in
    let inv = c.loop-step.invariant in
    let opened : map branch_of c.loop-step.step-iterator ≡ End hop leaf ∷ rest =
    ap (map branch_of) c.in-Some.ensures.steps ∙ ap (λ (s : Step). branch_of s ∷ rest) c.in-End.is in
    subst (λ (ws : List Walk). c.args.room.now < length ws) (walks_by_branches asked begun state c.requires)
    (omega (
      arith,
      inv.room,
      c.in_err-visit_end-in-End.ensures.passed (search rules),
      ap (λ (branches : List Branch). length (by_branches begun state on branches)) opened,
    ))

pub returns-clause-shown : goal.returns-clause-shown
returns-clause-shown g t c =
    let after = g.V.WalkVisitor.after in
    let asked = c.args.resolver.now in
    let begun = c.args.begun.now in
    let state = c.args.state in
    let on = walks_on asked (entered begun state) in
    ap (λ (steps : List Step). fold after c.loop-step.visitor (map (led_along begun) (by_branches begun state on (map branch_of steps)))) (sym c.in-None.ensures.steps.0)
    ∙ c.loop-step.invariant.shown
    ∙ ap (λ (ws : List Walk). fold after c.args.visitor.now (map (led_along begun) ws)) (walks_by_branches asked begun state c.requires)

pub returns-clause-begun : goal.returns-clause-begun
returns-clause-begun g t c =
    let begun = c.args.begun.now in
    let here = c.loop-step.invariant.begun in
    c.leave.ensures begun.states c.args.state (ap (λ (b : Begun). b.states) here)
    ∙ ap (λ (b : Begun). record { states = begun.states; hops = b.hops }) here

pub returns-clause-room : goal.returns-clause-room
returns-clause-room g t c =
    let asked = c.args.resolver.now in
    let begun = c.args.begun.now in
    let state = c.args.state in
    let on = walks_on asked (entered begun state) in
    omega (
      arith,
      c.loop-step.invariant.room,
      ap (λ (steps : List Step). length (by_branches begun state on (map branch_of steps))) c.in-None.ensures.steps.0,
      ap (λ (ws : List Walk). length ws) (walks_by_branches asked begun state c.requires),
    )
