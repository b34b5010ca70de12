use Rattle.std.proofs.Common.{List, subst}
use Rattle.net_model.specs.Reading.{zones}
use Rattle.net_model.specs.declared.config.Server.{Server}
use Rattle.std.specs.List.{flat_map}
use Rattle.zone_lookup.specs.Firsts.{ArePut}
use Rattle.zone_lookup.specs.Hosts.{AreHostsOf}
use Rattle.zone_lookup.proofs.PutZones.{zones_of_put}
use Rattle.zone_lookup.proofs.hosts.Hosts.build.Goals as goal

pub invariant_of-result : goal.invariant_of-result
invariant_of-result c = (
  subst (λ (servers : List Server). AreHostsOf servers c.in_ok-hosts.hosts.items) c.servers.ensures.servers c.in_ok-hosts.ensures.firsts,
  zones_of_put (zones c.args.config.now) c.new-trees.result c.firsts_in_order.new.trees c.in_ok-trees.trees.items c.new-trees.ensures
      (subst (λ (servers : List Server). ArePut (flat_map (λ (server : Server). server.zones) servers) c.new-trees.result c.firsts_in_order.new.trees) c.servers.ensures.servers
      c.in_ok-hosts.ensures.trees)
      c.in_ok-trees.ensures,
)
