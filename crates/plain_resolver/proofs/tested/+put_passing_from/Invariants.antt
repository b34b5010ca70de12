use Rattle.std.proofs.Common.{◌≡◌, ◌++◌, ◌∷◌, [], List, map, length}
use Rattle.std.specs.List.{fold}
use Rattle.net_model.specs.Step.{next}
use Rattle.net_model.specs.declared.walk.Walk.{Walk}
use Rattle.zone_lookup.specs.Steps.{branch_of}
use Rattle.plain_resolver.specs.Begun.{led_along}
use Rattle.plain_resolver.specs.Tested.{passing_from}
use Rattle.plain_resolver.proofs.ShownWalks.{entered, by_branches}
use Rattle.plain_resolver.proofs.tested.+put_passing_from.Given as goal

abbrev pub decreases-put_passing_from : goal.decreases-put_passing_from
decreases-put_passing_from g l = length l.tests.now

-- once those of the steps that are left are put too, all are
abbrev pub invariant-loop-step : goal.invariant-loop-step
invariant-loop-step g l =
    let state = l.fn.state in
    let put = λ (all : List Walk) (walk : Walk). all ++ walk ∷ [] in
    let on = passing_from g.T.StateTest.fits l.resolver.setting l.resolver.rtype l.rest in
    record {
      begun : l.begun ≡ entered l.fn.begun state;
      walks : fold put l.walks (map (led_along l.fn.begun) (by_branches l.fn.begun state on (map branch_of l.step-iterator)))
          ≡ fold put l.initial.walks (map (led_along l.fn.begun) (by_branches l.fn.begun state on (next l.resolver.setting l.resolver.rtype state)));
    }
