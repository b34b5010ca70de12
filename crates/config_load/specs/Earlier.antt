-- What is known of rows whose zones were read, for the later rows of the same files: for the contracts of inner calls
-- alone.
use Rattle.std.specs.Prelude.{◌≡◌, ◌⊎◌, ℕ, ◌-◌, Bool, List, Some, slice_get}
use Rattle.std.specs.BTreeMap as map
use Rattle.std.specs.Ordering.{nat_cmp}
use Rattle.io_edges.specs.Files.{FilesTold}
use Rattle.meta_read.specs.declared.meta.MetaRow.{MetaRow}
use Rattle.config_load.specs.Conf.{row_files, zone_unless}
use Rattle.config_load.specs.Hosted.{held_in}
use Rattle.config_load.specs.Reading.{Reads}
use Rattle.config_load.specs.declared.earlier.EarlierRow.{EarlierRow}
use Rattle.config_load.specs.declared.earlier.EarlierRows.{EarlierRows}
use Rattle.config_load.specs.declared.limits.Limits.{Limits}
use Rattle.config_load.specs.declared.loaded.RowFiles.{RowFiles}
use Rattle.config_load.specs.declared.rows.ReadRows.{ReadRows}
use Rattle.config_load.specs.declared.zone.ReadZone.{ReadZone}

-- the row at this place has the file and the origin of another
pub record IsAlike (all : List MetaRow) (place : ℕ) (row : MetaRow) : Type 0 where
  pub earlier : MetaRow
  pub there : slice_get all place ≡ Some earlier
  pub file : earlier.file ≡ row.file
  pub origin : earlier.origin ≡ row.origin

-- The zone of the row was read, unless it is skipped, with other limits but for the octets of a file: its names stand among
-- those of the rows, and its server holds it. So many record entries and included files were read as is known.
pub record WasRead (skips : MetaRow → Bool) (meta : List ℕ) (told : FilesTold) (row : MetaRow) (rows : ReadRows) (known : EarlierRow) : Type 0 where
  pub left : Limits
  pub as_long : left.octets ≡ rows.left.octets
  pub read : ReadZone
  pub reads : zone_unless skips meta row left told ≡ Reads read
  pub named : slice_get rows.rows known.row ≡ Some (row_files row.server read)
  pub held : held_in rows.servers row.server read.zone.origin ≡ Some read.zone
  pub records : known.records ≡ left.records - read.left.records
  pub includes : known.includes ≡ left.includes - read.left.includes

-- each known row was read
abbrev pub AreEarlier : (MetaRow → Bool) → List ℕ → FilesTold → List MetaRow → ReadRows → EarlierRows → Type 0
AreEarlier skips meta told all rows earlier =
    (number : ℕ) (known : EarlierRow) → map.get nat_cmp earlier.by_number number ≡ Some known
    → (row : MetaRow) → slice_get all known.row ≡ Some row → WasRead skips meta told row rows known

-- one row more is known, the one at this place, which took what was left to what is left now
pub record HasPut (place : ℕ) (left now : Limits) (old new : EarlierRows) : Type 0 where
  pub number : ℕ
  pub zone : ℕ
  pub updates : map.Updates nat_cmp old.by_number new.by_number number
      (Some (record { row = place; zone = zone; records = left.records - now.records; includes = left.includes - now.includes }))

-- at most this row more is known
abbrev pub HasPutAtMost : ℕ → Limits → Limits → EarlierRows → EarlierRows → Type 0
HasPutAtMost place left now old new = (new ≡ old) ⊎ HasPut place left now old new

-- the zone that the server of a row holds, with the names of the row's files, and what is left behind so much as is known
pub record IsZoneNamed (known : EarlierRow) (named : RowFiles) (rows : ReadRows) (read : ReadZone) : Type 0 where
  pub held : held_in rows.servers named.server named.origin ≡ Some read.zone
  pub names : read.names ≡ named.files
  pub left : read.left ≡ record rows.left { records = rows.left.records - known.records; includes = rows.left.includes - known.includes }
