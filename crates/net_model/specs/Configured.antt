-- What a configuration is, and what is true of each: it is read by rules that see to it.
use Rattle.std.specs.Prelude.{◌≡◌, ◌≢◌, true, List, AllPairs, Contains}
use Rattle.dns_data.specs.Name.{Labels, is_prefix}
use Rattle.dns_data.specs.declared.rdata.Rr.{Rr}
use Rattle.net_model.specs.declared.config.Server.{Server}
use Rattle.net_model.specs.declared.config.Zone.{Zone}

-- the servers at which a query begins, and all servers in the order of their first rows
pub record Configuration : Type 0 where
  pub tops : List Labels
  pub servers : List Server

-- each record of the zone lies at or below its origin
abbrev pub KeepsWithin : Zone → Type 0
KeepsWithin zone = (rr : Rr) → Contains zone.rrs rr → is_prefix zone.origin rr.owner ≡ true

-- the server has one zone of an origin, and each record of its zones lies at or below the origin
pub record IsConsistent (server : Server) : Type 0 where
  pub origins : AllPairs (λ a b. a.origin ≢ b.origin) server.zones
  pub within : (zone : Zone) → Contains server.zones zone → KeepsWithin zone

-- there is one server of a name, and each has one zone of an origin, whose records lie at or below the origin
pub record AreConsistent (servers : List Server) : Type 0 where
  pub names : AllPairs (λ a b. a.name ≢ b.name) servers
  pub each : (server : Server) → Contains servers server → IsConsistent server
