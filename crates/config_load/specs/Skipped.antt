-- A configuration of which some rows are skipped: that of all rows, but for the records of their zones.
use Rattle.std.specs.Prelude.{◌≡◌, ◌⊎◌, true, Bool, []}
use Rattle.std.specs.List.{AllZip}
use Rattle.dns_data.specs.Name.{Labels}
use Rattle.net_model.specs.Configured.{KeepsWithin}
use Rattle.net_model.specs.declared.config.Config.{Config}
use Rattle.net_model.specs.declared.config.Server.{Server}
use Rattle.net_model.specs.declared.config.Zone.{Zone}
use Rattle.config_load.specs.Reading.{Reading, Reads}

-- the zone is the one of the whole; or it has an origin of which this holds and no records, and those of the whole lie at
-- or below the origin
abbrev pub IsZoneUnless : (Labels → Bool) → Zone → Zone → Type 0
IsZoneUnless skips whole zone =
    (zone ≡ whole) ⊎ ((skips whole.origin ≡ true) × KeepsWithin whole × (zone ≡ record { origin = whole.origin; rrs = [] }))

-- the server of the whole, with such zones
pub record IsServerUnless (skips : Labels → Bool) (whole server : Server) : Type 0 where
  pub name : server.name ≡ whole.name
  pub zones : AllZip (IsZoneUnless skips) whole.zones server.zones

-- the configuration is the whole, but for the records of zones with origins of which this holds
pub record IsConfigUnless (skips : Labels → Bool) (whole config : Config) : Type 0 where
  pub tops : config.tops ≡ whole.tops
  pub servers : AllZip (IsServerUnless skips) whole.servers config.servers

-- a configuration is read that is the whole but for records of zones with such origins
pub record GivesUnless (skips : Labels → Bool) (whole : Config) (reading : Reading Config) : Type 0 where
  pub config : Config
  pub reads : reading ≡ Reads config
  pub is : IsConfigUnless skips whole config
