use Rattle.std.proofs.Common.{◌≡◌, ◌+◌, map, length}
use Rattle.std.specs.List.{AllByRecursion, fold}
use Rattle.net_model.specs.Step.{next}
use Rattle.net_model.proofs.AllWalks.{LeadsTo, Settled}
use Rattle.zone_lookup.specs.Steps.{branch_of}
use Rattle.plain_resolver.specs.Begun.{led_along, states_left, walks_on}
use Rattle.plain_resolver.proofs.ShownWalks.{entered, by_branches}
use Rattle.plain_resolver.proofs.walks.+visit_from.Given as goal

abbrev pub decreases-visit_from : goal.decreases-visit_from
decreases-visit_from g l = states_left l.resolver.now l.begun.now

-- once those of the steps that are left are shown too, all are
abbrev pub invariant-loop-step : goal.invariant-loop-step
invariant-loop-step g l =
    let state = l.fn.state in
    let here = entered l.fn.begun state in
    let on = walks_on l.resolver here in
    record {
      begun : l.begun ≡ here;
      shown : fold g.V.WalkVisitor.after l.visitor (map (led_along l.fn.begun) (by_branches l.fn.begun state on (map branch_of l.step-iterator)))
          ≡ fold g.V.WalkVisitor.after l.initial.visitor (map (led_along l.fn.begun) (by_branches l.fn.begun state on (next l.resolver.setting l.resolver.rtype state)));
      room : l.room + length (by_branches l.fn.begun state on (next l.resolver.setting l.resolver.rtype state))
          ≡ l.initial.room + length (by_branches l.fn.begun state on (map branch_of l.step-iterator));
      settled : AllByRecursion (LeadsTo (Settled (states_left l.resolver here) l.resolver.setting l.resolver.rtype)) (map branch_of l.step-iterator);
    }
