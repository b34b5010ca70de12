use Rattle.std.proofs.Common.{List, [], ◌∷◌, subst}
use Rattle.net_model.specs.declared.config.Zone.{Zone}
use Rattle.std.specs.List.{flat_map}
use Rattle.zone_lookup.specs.Firsts.{ArePut}
use Rattle.zone_lookup.proofs.PutZones.{each_put}
use Rattle.zone_lookup.proofs.hosts.Host.build.Goals as goal

pub returns-clause-trees : goal.returns-clause-trees
returns-clause-trees c =
    each_put c.args.server.now.zones c.args.made.now c.firsts_in_order.new.trees
    (subst (λ (zones : List Zone). ArePut (flat_map (λ zone. zone ∷ []) zones) c.args.made.now c.firsts_in_order.new.trees) c.items.ensures c.in_ok-trees.ensures.trees)
