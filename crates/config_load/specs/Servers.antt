-- Servers, and the zones that they have.
use Rattle.std.specs.Prelude.{ℕ, Bool, ◌&&◌, List, [], ◌∷◌, ◌++◌, if◌then◌else◌, Result, Ok, Err}
use Rattle.std.specs.List.{list_any}
use Rattle.dns_data.specs.Name.{Labels, name_eq}
use Rattle.net_model.specs.declared.config.Server.{Server}
use Rattle.net_model.specs.declared.config.Zone.{Zone}
use Rattle.config_load.specs.declared.fault.LoadFault.{LoadFault}
use Rattle.config_load.specs.declared.fault.LoadFault.TheVariants.{ZoneTwice}

-- a server of this name has a zone of this origin
abbrev pub has_zone : Labels → Labels → List Server → Bool
has_zone name origin servers =
    list_any (λ server. name_eq name server.name && list_any (λ zone. name_eq origin zone.origin) server.zones) servers

-- the servers with one zone more: behind the other zones of the server of this name, or at a server behind the others
abbrev pub with_zone : Labels → Zone → List Server → List Server
with_zone name zone [] = record { name = name; zones = zone ∷ [] } ∷ []
with_zone name zone (server ∷ servers) =
    if name_eq name server.name then record server { zones = server.zones ++ zone ∷ [] } ∷ servers
    else server ∷ with_zone name zone servers

-- the servers with one zone more, unless the server of this name has a zone of this origin: that is the fault of the row of
-- this number
abbrev pub given : ℕ → Labels → Zone → List Server → Result (List Server) LoadFault
given number name zone servers =
    if has_zone name zone.origin servers then Err (ZoneTwice number) else Ok (with_zone name zone servers)
