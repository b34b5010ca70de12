-- Rows of the metadata and zones of the configuration: each row has the zone that was read from its files, and each
-- zone is that of one row.
use Rattle.std.specs.Prelude.{◌≡◌, List, Some, ℕ, Contains, AllPairs}
use Rattle.io_edges.specs.Files.{FilesTold}
use Rattle.meta_read.specs.declared.meta.MetaRow.{MetaRow}
use Rattle.net_model.specs.declared.config.Config.{Config}
use Rattle.net_model.specs.declared.config.Server.{Server}
use Rattle.net_model.specs.declared.config.Zone.{Zone}
use Rattle.net_model.specs.Nearest.{held_zone}
use Rattle.config_load.specs.Conf.{row_files, zone_read}
use Rattle.config_load.specs.Reading.{Reads}
use Rattle.config_load.specs.declared.limits.Limits.{Limits}
use Rattle.config_load.specs.declared.loaded.Loaded.{Loaded}
use Rattle.config_load.specs.declared.loaded.RowFiles.{RowFiles}
use Rattle.config_load.specs.declared.zone.ReadZone.{ReadZone}

-- the row has the server, the origin and the files of a zone that was read, of files no longer than the limits allow, and
-- its server is found to hold that zone
pub record HoldsRow (limits : Limits) (meta : List ℕ) (told : FilesTold) (config : Config) (row : RowFiles) : Type 0 where
  pub given : MetaRow
  pub left : Limits
  pub as_long : left.octets ≡ limits.octets
  pub read : ReadZone
  pub reads : zone_read meta given left told ≡ Reads read
  pub is : row ≡ row_files given.server read
  pub held : held_zone config row.server row.origin ≡ Some read.zone

-- the row is that of a zone of a server
pub record IsRowOf (server : Server) (zone : Zone) (row : RowFiles) : Type 0 where
  pub server_is : row.server ≡ server.name
  pub origin_is : row.origin ≡ zone.origin

-- each row has its zone; each zone of a server is found there, and is that of a row; and no two rows are those of one zone
pub record RowsHaveZones (limits : Limits) (meta : List ℕ) (told : FilesTold) (all : Loaded) : Type 0 where
  pub rows : (row : RowFiles) → Contains all.rows row → HoldsRow limits meta told all.config row
  pub found : (server : Server) (zone : Zone) → Contains all.config.servers server → Contains server.zones zone
      → held_zone all.config server.name zone.origin ≡ Some zone
  pub zones : (server : Server) (zone : Zone) → Contains all.config.servers server → Contains server.zones zone
      → (row : RowFiles) × Contains all.rows row × IsRowOf server zone row
  pub once : AllPairs (λ (a b : RowFiles). a.server ≡ b.server → a.origin ≡ b.origin → ⊥) all.rows
