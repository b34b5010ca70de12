use Rattle.std.proofs.Common.{◌≡◌, ◌++◌, ◌∷◌, List, [], sym, ap, ◌∙◌, subst}
use Rattle.std.specs.List.{fold}
use Rattle.net_model.specs.declared.walk.Walk.{Walk}
use Rattle.plain_resolver.specs.Asked.{Asked}
use Rattle.plain_resolver.specs.Tested.{ArePassing}
use Rattle.plain_resolver.proofs.PassingWalks.{are_passing, from_starts}
use Rattle.plain_resolver.proofs.ShownWalks.{all_listed}
use Rattle.plain_resolver.proofs.tested.resolve_tested.Goals as goal

pub returns : goal.returns
returns g c =
    let fits = g.T.StateTest.fits in
    let tests = c.args.tests.now in
    let asked = c.new-resolver.result in
    let all = from_starts fits asked.setting asked.rtype asked.query tests in
    let are : c.put_passing.new.walks ≡ all =
    c.in_ok-put_passing.ensures ∙ ap (λ (before : List Walk). fold (λ (ws : List Walk) (walk : Walk). ws ++ walk ∷ []) before all) c.new-walks.ensures ∙ all_listed [] all in
    subst (λ (asked : Asked). ArePassing fits asked.setting asked.query asked.rtype tests c.put_passing.new.walks) c.new-resolver.ensures
    (subst (ArePassing fits asked.setting asked.query asked.rtype tests) (sym are) (are_passing fits asked.setting asked.rtype asked.query tests))
