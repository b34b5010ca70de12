-- The trees of a server's zones and the servers of a configuration in the order of names, each once.
use Rattle.std.specs.Prelude.{◌↔◌, List, Option, map, Contains}
use Rattle.dns_data.specs.Name.{Labels}
use Rattle.net_model.specs.Reading.{zones}
use Rattle.net_model.specs.declared.config.Config.{Config}
use Rattle.net_model.specs.declared.config.Server.{Server}
use Rattle.net_model.specs.declared.config.Zone.{Zone}
use Rattle.zone_tree.specs.Tree.{ZoneTree}
use Rattle.zone_lookup.specs.Firsts.{AreFirstsByName}
use Rattle.zone_lookup.specs.Named.{item_named}

-- trees of zones by their origins
abbrev pub AreTreesOf : List Zone → List ZoneTree → Type 0
AreTreesOf zones trees = AreFirstsByName (λ tree. tree.zone) (λ zone. zone.origin) zones trees

-- servers by their names
abbrev pub AreHostsOf : List Server → List Server → Type 0
AreHostsOf servers hosts = AreFirstsByName (λ host. host) (λ server. server.name) servers hosts

-- the trees are those of all servers' zones; of equal zones there is one or more
abbrev pub HaveZonesOf : Config → List ZoneTree → Type 0
HaveZonesOf config trees = (zone : Zone) → Contains (map (λ tree. tree.zone) trees) zone ↔ Contains (zones config) zone

-- the tree whose zone has this origin
abbrev pub tree_at : List ZoneTree → Labels → Option ZoneTree
tree_at trees = item_named (λ tree. tree.zone.origin) trees
