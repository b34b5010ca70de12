use Rattle.std.proofs.Common.{◌≡◌, ◌∙◌, ◌++◌, List, [], ap, subst}
use Rattle.std.specs.List.{flat_map, fold}
use Rattle.net_model.specs.declared.walk.Walk.{Walk}
use Rattle.plain_resolver.specs.Asked.{Asked}
use Rattle.plain_resolver.specs.FromServer.{AreAsked}
use Rattle.plain_resolver.specs.WalkEnds.{zone_ends_of}
use Rattle.plain_resolver.specs.declared.walk_end.ZoneEnd.{ZoneEnd}
use Rattle.plain_resolver.proofs.ShownWalks.{zone_ends_listed}
use Rattle.plain_resolver.proofs.walks.zone_ends.Goals as goal

pub returns-clause-ends : goal.returns-clause-ends
returns-clause-ends c =
    let shown = c.in_ok-visit_walks.ensures.shown in
    let are : c.visit_walks.new.visitor ≡ flat_map zone_ends_of shown.0 =
    shown.2 ∙ ap (λ (before : List ZoneEnd). fold (λ (all : List ZoneEnd) (walk : Walk). all ++ zone_ends_of walk) before shown.0) c.new-ends.ensures ∙ zone_ends_listed [] shown.0 in (
      shown.0,
      subst (λ (asked : Asked). AreAsked asked.setting asked.query asked.rtype asked.server shown.0) c.of-resolver.ensures shown.1,
      are,
    )
