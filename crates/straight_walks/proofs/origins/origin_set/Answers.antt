use Rattle.std.proofs.Common.{List, take_all, sym, ◌∙◌, subst}
use Rattle.std.specs.Prelude.{Contains}
use Rattle.net_model.specs.declared.config.Server.{Server}
use Rattle.net_model.specs.declared.config.Zone.{Zone}
use Rattle.straight_walks.specs.Regions.{HasOrigins}
use Rattle.straight_walks.proofs.OriginSets.{each_more, names_of}
use Rattle.straight_walks.proofs.origins.origin_set.Goals as goal

pub loop-server-preserved : goal.loop-server-preserved
loop-server-preserved c =
    let item = c.server-item.result in
    let after = c.put_origins.new.origins.keys in
    each_more (λ (server : Server). HasOrigins server.zones (names_of after)) c.servers-server-items.result.now c.loop-server.server-index item c.loop-server-test.true c.server-item.is
    (λ server has zone among. c.in_ok-put_origins.ensures.kept zone.origin (c.loop-server.invariant server has zone among))
    (subst (λ (zones : List Zone). HasOrigins zones (names_of after)) c.items.ensures c.in_ok-put_origins.ensures.all)

pub returns : goal.returns
returns c = λ server has.
    c.loop-server.invariant server
    (subst (λ (servers : List Server). Contains servers server)
    (sym (take_all c.loop-server.server-index c.servers-server-items.result.now c.loop-server-test.false ∙ c.servers-server-items.ensures.servers)) has)
