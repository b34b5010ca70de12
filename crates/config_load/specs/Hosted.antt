-- How servers and their zones are found: for the contracts of inner calls alone.
use Rattle.std.specs.Prelude.{◌≡◌, ℕ, zero, suc, List, [], ◌∷◌, ◌++◌, if◌then◌else◌, Option, Some, None, option_and_then}
use Rattle.std.specs.BTreeMap as map
use Rattle.std.specs.BTreeSet as tree
use Rattle.std.specs.Cmp.Lexicographic.{slice_cmp}
use Rattle.std.specs.List.{find}
use Rattle.std.specs.Option.{option_map}
use Rattle.dns_data.specs.Name.{Labels, name_eq, name_cmp}
use Rattle.net_model.specs.declared.config.Server.{Server}
use Rattle.net_model.specs.declared.config.Zone.{Zone}
use Rattle.net_model.specs.Nearest.{zone_with_origin}
use Rattle.config_load.specs.Servers.{has_zone}

-- the place of the first server of this name
abbrev pub server_place : Labels → List Server → Option ℕ
server_place name [] = None
server_place name (server ∷ servers) =
    if name_eq name server.name then Some 0 else option_map (λ place. suc place) (server_place name servers)

-- one zone more at the server at this place
abbrev pub with_zone_at : ℕ → Zone → List Server → List Server
with_zone_at place zone [] = []
with_zone_at zero zone (server ∷ servers) = record server { zones = server.zones ++ zone ∷ [] } ∷ servers
with_zone_at (suc place) zone (server ∷ servers) = server ∷ with_zone_at place zone servers

-- the zones of the first server of this name
abbrev pub zones_of : List Server → Labels → Option (List Zone)
zones_of servers name = option_map (λ (server : Server). server.zones) (find (λ (server : Server). name_eq server.name name) servers)

-- the zone with this origin that the first server of this name holds
abbrev pub held_in : List Server → Labels → Labels → Option Zone
held_in servers name origin =
    option_and_then (λ (holder : Server). zone_with_origin holder origin) (find (λ (server : Server). name_eq server.name name) servers)

-- each server is found at its place by its name
abbrev pub ArePlaces : map.BTreeMap Labels ℕ → List Server → Type 0
ArePlaces places servers = (name : Labels) → map.get name_cmp places name ≡ server_place name servers

-- it is known of each origin and name, which together tell a zone, whether a server of this name has such a zone
abbrev pub AreHeld : tree.BTreeSet (List Labels) → List Server → Type 0
AreHeld held servers =
    (name origin : Labels) → tree.contains (slice_cmp name_cmp) held (origin ∷ name ∷ []) ≡ has_zone name origin servers
