use Rattle.std.proofs.Common.{◌≡◌, ◌∙◌, ◌++◌, ◌∷◌, List, [], sym, ap, subst}
use Rattle.std.specs.List.{fold}
use Rattle.net_model.specs.declared.walk.Walk.{Walk}
use Rattle.plain_resolver.specs.Asked.{Asked}
use Rattle.plain_resolver.specs.FromServer.{AreAsked}
use Rattle.plain_resolver.proofs.ShownWalks.{all_listed}
use Rattle.plain_resolver.proofs.walks.resolve_at.Goals as goal

pub returns-clause-walks : goal.returns-clause-walks
returns-clause-walks c =
    let shown = c.in_ok-visit_walks.ensures.shown in
    let are : c.visit_walks.new.visitor ≡ shown.0 =
    shown.2 ∙ ap (λ (before : List Walk). fold (λ (all : List Walk) (walk : Walk). all ++ walk ∷ []) before shown.0) c.new-walks.ensures ∙ all_listed [] shown.0 in
    let of = c.new-resolver.result in
    subst (λ (asked : Asked). AreAsked asked.setting asked.query asked.rtype asked.server c.visit_walks.new.visitor) c.new-resolver.ensures
    (subst (AreAsked of.setting of.query of.rtype of.server) (sym are) shown.1)
