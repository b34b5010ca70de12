-- What is left of rows whose zones are taken: for the contracts of inner calls alone.
use Rattle.std.specs.Prelude.{◌≡◌, ℕ, Bool, List, map, Contains, Result, Ok, Err}
use Rattle.std.specs.List.{flat_map}
use Rattle.io_edges.specs.Files.{FilesTold}
use Rattle.meta_read.specs.declared.meta.MetaRow.{MetaRow}
use Rattle.net_model.specs.declared.config.Server.{Server}
use Rattle.net_model.specs.declared.config.Zone.{Zone}
use Rattle.config_load.specs.Conf.{zone_unless}
use Rattle.config_load.specs.Follows.{ByTold}
use Rattle.config_load.specs.Reading.{Reads}
use Rattle.config_load.specs.Sources.{HasAnswered}
use Rattle.config_load.specs.Taken.{AreTaken, config_left, server_left}
use Rattle.config_load.specs.declared.fault.LoadFault.{LoadFault}
use Rattle.config_load.specs.declared.loaded.Loaded.{Loaded}
use Rattle.config_load.specs.declared.rows.ReadRows.{ReadRows}
use Rattle.config_load.specs.declared.zone.ReadZone.{ReadZone}

-- the zones of servers
abbrev pub zones_in : List Server → List Zone
zones_in servers = flat_map (λ server. server.zones) servers

-- the zone that was read, where this is left of it
abbrev pub read_left : (Zone → Zone) → ReadZone → ReadZone
read_left left read = record read { zone = left read.zone }

-- the rows, where this is left of each zone
abbrev pub rows_left : (Zone → Zone) → ReadRows → ReadRows
rows_left left rows = record rows { servers = map (server_left left) rows.servers }

-- what was loaded, where this is left of each zone
abbrev pub loaded_left : (Zone → Zone) → Loaded → Loaded
loaded_left left all = record all { config = config_left left all.config }

-- the result is what is left of an answer: of its value, of which this holds, or its fault
abbrev pub IsLeft : {A : Type 0} → (A → A) → (A → Type 0) → Result A LoadFault → Result A LoadFault → Type 0
IsLeft left Taken whole (Ok kept) = (value : _) × (whole ≡ Ok value) × (kept ≡ left value) × Taken value
IsLeft left Taken whole (Err fault) = whole ≡ Err fault

-- the reading was done, and the result is what is left of its answer
pub record HasLeft {A : Type 0} (told told' : FilesTold) (counts counts' : List ℕ → ℕ) (reading : ByTold A) (left : A → A) (Taken : A → Type 0) (result : Result A LoadFault) : Type 0 where
  pub whole : Result A LoadFault
  pub answered : HasAnswered told told' counts counts' reading whole
  pub is : IsLeft left Taken whole result

-- these rows are left of others, whose zones were all taken
pub record AreLeft (left : Zone → Zone) (took : List Zone → Type 0) (whole rows : ReadRows) : Type 0 where
  pub are : rows ≡ rows_left left whole
  pub taken : AreTaken took (zones_in whole.servers)

-- what is left of the zone of a row, which is among the zones of the rows before
pub record IsReadLeft (skips : MetaRow → Bool) (meta : List ℕ) (told : FilesTold) (row : MetaRow) (left : Zone → Zone) (whole : ReadRows) (again : ReadZone) : Type 0 where
  pub read : ReadZone
  pub reads : zone_unless skips meta row whole.left told ≡ Reads read
  pub is : again ≡ read_left left read
  pub there : Contains (zones_in whole.servers) read.zone
