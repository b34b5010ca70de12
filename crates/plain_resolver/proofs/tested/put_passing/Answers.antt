use Rattle.std.proofs.Common.{◌≡◌, ◌++◌, ◌∷◌, [], List, map, sym, ap, ◌∙◌}
use Rattle.std.specs.List.{flat_map, fold}
use Rattle.std.proofs.lemmas.List.Sums.{fold-append}
use Rattle.net_model.specs.Step.{Setting, start}
use Rattle.net_model.specs.declared.config.Config.{Config}
use Rattle.net_model.specs.declared.walk.State.{State}
use Rattle.net_model.specs.declared.walk.Walk.{Walk}
use Rattle.plain_resolver.specs.Begun.{Begun, led_along}
use Rattle.plain_resolver.specs.Tested.{passing_from}
use Rattle.plain_resolver.proofs.ShownWalks.{along_nothing}
use Rattle.plain_resolver.proofs.tested.put_passing.Goals as goal

pub loop-state-init : goal.loop-state-init
loop-state-init g c =
    let asked = c.args.resolver.now in
    let put = λ (all : List Walk) (walk : Walk). all ++ walk ∷ [] in
    let on = passing_from g.T.StateTest.fits asked.setting asked.rtype c.args.tests.now in
    let states : c.into_iter-state-iterator.result ≡ start asked.setting.config asked.query =
    c.into_iter-state-iterator.ensures.into_iter_gives.0 ∙ c.in_ok-state-items.ensures
    ∙ ap (λ (config : Config). start config c.query.result.now) (c.hosts.ensures ∙ ap (λ (setting : Setting). setting.config) c.walker.ensures)
    ∙ ap (start asked.setting.config) c.query.ensures in
    record {
      begun = c.new-begun.ensures;
      walks = ap (λ (left : List State). fold put c.args.walks.now (flat_map on left)) states;
    }

pub loop-state-preserved : goal.loop-state-preserved
loop-state-preserved g c =
    let asked = c.args.resolver.now in
    let put = λ (all : List Walk) (walk : Walk). all ++ walk ∷ [] in
    let on = passing_from g.T.StateTest.fits asked.setting asked.rtype c.args.tests.now in
    let state = c.in-Some.state in
    let rest = c.next.new.self in
    let walks = c.loop-state.walks in
    let inv = c.loop-state.invariant in
    let opened : c.loop-state.state-iterator ≡ state ∷ rest = c.in-Some.ensures.steps in
    let more : c.put_passing_from.new.walks ≡ fold put walks (on state) =
    c.in_ok-put_passing_from.ensures.walks
    ∙ ap (λ (b : Begun). fold put walks (map (led_along b) (on state))) inv.begun
    ∙ ap (λ (ws : List Walk). fold put walks ws) (along_nothing (on state)) in
    record {
      begun = c.in_ok-put_passing_from.ensures.begun ∙ inv.begun;
      walks =
          ap (λ (all : List Walk). fold put all (flat_map on rest)) more
          ∙ sym (fold-append put walks (on state) (flat_map on rest))
          ∙ ap (λ (states : List State). fold put walks (flat_map on states)) (sym opened)
          ∙ inv.walks;
    }
