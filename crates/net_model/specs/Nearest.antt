-- Servers and zones of a configuration by name, and the zone in which a server looks a name up
-- (RFC 1034 section 4.3.2, step 2). The first of several with one name counts.
use Rattle.std.specs.Prelude.{Bool, List, map, Option, is_some, option_and_then}
use Rattle.std.specs.List.{find, list_any}
use Rattle.dns_data.specs.Name.{Labels, name_eq}
use Rattle.net_model.specs.declared.config.Config.{Config}
use Rattle.net_model.specs.declared.config.Server.{Server}
use Rattle.net_model.specs.declared.config.Zone.{Zone}
use Rattle.net_model.specs.Prefix.{longest}

-- the configured server of this name
abbrev pub server_named : Config → Labels → Option Server
server_named config name = find (λ server. name_eq server.name name) config.servers

-- the server's zone with this origin
abbrev pub zone_with_origin : Server → Labels → Option Zone
zone_with_origin server origin = find (λ zone. name_eq zone.origin origin) server.zones

-- the server's zone with the longest origin at or above the name
abbrev pub nearest : Server → Labels → Option Zone
nearest server name =
    option_and_then (zone_with_origin server)
    (longest (λ above. is_some (zone_with_origin server above)) name)

-- the zone with the longest origin at or above the name, of the server of this name; one that isn't configured holds no
-- zone
abbrev pub nearest_of : Config → Labels → Labels → Option Zone
nearest_of config server name = option_and_then (λ holder. nearest holder name) (server_named config server)

-- the zone with this origin that the server of this name holds
abbrev pub held_zone : Config → Labels → Labels → Option Zone
held_zone config server origin =
    option_and_then (λ holder. zone_with_origin holder origin) (server_named config server)

-- the server is configured
abbrev pub is_configured : Config → Labels → Bool
is_configured config name = is_some (server_named config name)

-- a query may begin at the server
abbrev pub is_top : Config → Labels → Bool
is_top config name = list_any (name_eq name) config.tops

-- the names of the configured servers
abbrev pub server_names : Config → List Labels
server_names config = map (λ server. server.name) config.servers
