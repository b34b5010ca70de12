use Rattle.std.proofs.Common.{◌≡◌, ◌++◌, ◌∷◌, [], List}
use Rattle.std.specs.List.{flat_map, fold}
use Rattle.net_model.specs.Step.{start}
use Rattle.net_model.specs.declared.walk.Walk.{Walk}
use Rattle.plain_resolver.specs.Tested.{passing_from}
use Rattle.plain_resolver.proofs.ShownWalks.{nothing}
use Rattle.plain_resolver.proofs.tested.put_passing.Given as goal

-- once the walks are put too that begin in the states that are left, all are
abbrev pub invariant-loop-state : goal.invariant-loop-state
invariant-loop-state g l =
    let put = λ (all : List Walk) (walk : Walk). all ++ walk ∷ [] in
    let on = passing_from g.T.StateTest.fits l.resolver.setting l.resolver.rtype l.tests in
    record {
      begun : l.begun ≡ nothing;
      walks : fold put l.walks (flat_map on l.state-iterator) ≡ fold put l.initial.walks (flat_map on (start l.resolver.setting.config l.resolver.query));
    }
