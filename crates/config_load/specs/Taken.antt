-- What is left of a configuration that is taken zone by zone while it is read, and which zones were taken.
use Rattle.std.specs.Prelude.{◌≡◌, List, map, Contains, Result, Ok, Err}
use Rattle.net_model.specs.Reading.{zones}
use Rattle.net_model.specs.declared.config.Config.{Config}
use Rattle.net_model.specs.declared.config.Server.{Server}
use Rattle.net_model.specs.declared.config.Zone.{Zone}
use Rattle.config_load.specs.Load.{Gives}
use Rattle.config_load.specs.Reading.{Reading, Reads}
use Rattle.config_load.specs.declared.fault.LoadFault.{LoadFault}

-- the server, where this is left of each zone
abbrev pub server_left : (Zone → Zone) → Server → Server
server_left left server = record { name = server.name; zones = map left server.zones }

-- the configuration, where this is left of each zone
abbrev pub config_left : (Zone → Zone) → Config → Config
config_left left config = record { tops = config.tops; servers = map (server_left left) config.servers }

-- zones were taken, which are these ones; it is open in which order, and how often one that stands there several times
pub record AreTaken (took : List Zone → Type 0) (all : List Zone) : Type 0 where
  pub taken : List Zone
  pub took_them : took taken
  pub each : (zone : Zone) → Contains all zone → Contains taken zone
  pub only : (zone : Zone) → Contains taken zone → Contains all zone

-- this is left of a configuration, whose zones were taken
pub record IsLeftOf (left : Zone → Zone) (took : List Zone → Type 0) (whole config : Config) : Type 0 where
  pub is : config ≡ config_left left whole
  pub taken : AreTaken took (zones whole)

-- an answer is what is left of what the reading gives, or the refusal; a failed read and `NoMemory` are free
abbrev pub GivesLeft : (Zone → Zone) → (List Zone → Type 0) → Reading Config → Result Config LoadFault → Type 0
GivesLeft left took reading (Ok config) = (whole : Config) × (reading ≡ Reads whole) × IsLeftOf left took whole config
GivesLeft left took reading (Err fault) = Gives {T = Config} reading (Err fault)
