use Rattle.std.proofs.Common.{◌≡◌, ◌∙◌, ◌++◌, ◌∷◌, List, [], map, ap, subst}
use Rattle.std.specs.List.{fold}
use Rattle.net_model.specs.declared.walk.Walk.{Walk}
use Rattle.plain_resolver.specs.Asked.{Asked}
use Rattle.plain_resolver.specs.FromServer.{AreAsked}
use Rattle.plain_resolver.specs.WalkEnds.{end_of}
use Rattle.plain_resolver.specs.declared.walk_end.WalkEnd.{WalkEnd}
use Rattle.plain_resolver.proofs.ShownWalks.{ends_listed}
use Rattle.plain_resolver.proofs.walks.ends_at.Goals as goal

pub returns-clause-ends : goal.returns-clause-ends
returns-clause-ends c =
    let shown = c.in_ok-visit_walks.ensures.shown in
    let are : c.visit_walks.new.visitor ≡ map end_of shown.0 =
    shown.2 ∙ ap (λ (before : List WalkEnd). fold (λ (all : List WalkEnd) (walk : Walk). all ++ end_of walk ∷ []) before shown.0) c.new-ends.ensures ∙ ends_listed [] shown.0 in (
      shown.0,
      subst (λ (asked : Asked). AreAsked asked.setting asked.query asked.rtype asked.server shown.0) c.new-resolver.ensures shown.1,
      are,
    )
