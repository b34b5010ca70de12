-- What a metadata file and the files that it names give, by what is told of them: the configuration, or the first
-- refusal. A file is read to its end before what stands in it counts.
use Rattle.std.specs.Prelude.{ℕ, zero, suc, ◌+◌, ◌-◌, Bool, false, List, [], ◌∷◌, ◌++◌, if◌then◌else◌, unwrap_or, Result, Ok, Err}
use Rattle.std.specs.Option.{option_map_or}
use Rattle.dns_data.specs.Name.{Labels}
use Rattle.io_edges.specs.Files.{FilesTold}
use Rattle.master_read.specs.ZoneText.{Unread, Faulty, Asks, zone_text}
use Rattle.master_read.specs.declared.zone_text.ZoneText.{ZoneText}
use Rattle.meta_read.specs.Metadata.{metadata_within}
use Rattle.meta_read.specs.declared.meta.Meta.{Meta as Metadata}
use Rattle.meta_read.specs.declared.meta.MetaRow.{MetaRow}
use Rattle.net_model.specs.declared.config.Config.{Config}
use Rattle.zone_rules.specs.ZoneOf.{zone_of}
use Rattle.config_load.specs.Faults.{of_metadata, of_text, of_rule}
use Rattle.config_load.specs.Joined.{joined}
use Rattle.config_load.specs.Limits.{usual_limits}
use Rattle.config_load.specs.Reading.{Reading, Reads, Refuses, Unknown, ◌>>=◌, unless_refused, file_octets}
use Rattle.config_load.specs.Servers.{given}
use Rattle.config_load.specs.declared.limits.Limits.{Limits}
use Rattle.config_load.specs.declared.loaded.Loaded.{Loaded}
use Rattle.config_load.specs.declared.loaded.RowFiles.{RowFiles}
use Rattle.config_load.specs.declared.rows.ReadRows.{ReadRows}
use Rattle.config_load.specs.declared.zone.ReadZone.{ReadZone}
use Rattle.config_load.specs.declared.zone_files.ZoneFiles.{ZoneFiles}

-- what a zone leaves for the next ones
abbrev pub left_behind : Limits → ZoneText → Limits
left_behind left text = record left { records = left.records - text.seen; includes = left.includes - text.included }

-- what the texts of a zone's files with these names give: their records, their first fault, or what follows with the
-- file that they ask for
abbrev pub settled : List (List ℕ) → (List ℕ → Reading ZoneFiles) → Result ZoneText Unread → Reading ZoneFiles
settled names next (Ok text) = Reads (record { names = names; text = text })
settled names next (Err (Faulty fault)) = Refuses (of_text names fault)
settled names next (Err (Asks file)) = next file

-- The files of a zone, of which those with these names and texts were opened, in order; so many may be opened still.
-- In the first equation no file is asked for, since texts ask for no more files than may be included
-- (`asks_within_the_limit` of master_read).
unfoldable pub files_behind : List ℕ → Labels → Limits → ℕ → List (List ℕ) → List (List ℕ) → FilesTold → Reading ZoneFiles
files_behind meta origin left zero names texts told =
    settled names (λ file. Unknown (joined meta file)) (zone_text origin left.records left.includes texts)
files_behind meta origin left (suc times) names texts told =
    settled names
    (λ file. file_octets left (joined meta file) told >>= λ text.
    files_behind meta origin left times (names ++ joined meta file ∷ []) (texts ++ text ∷ []) told)
    (zone_text origin left.records left.includes texts)

-- the files of a row's zone: its file, and those that are included
unfoldable pub zone_files : List ℕ → MetaRow → Limits → FilesTold → Reading ZoneFiles
zone_files meta row left told = do
  text ← file_octets left (joined meta row.file) told
  files_behind meta (unwrap_or row.origin []) left left.includes (joined meta row.file ∷ []) (text ∷ []) told

-- the zone of a row's files, with their names, and what it leaves
unfoldable pub zone_read : List ℕ → MetaRow → Limits → FilesTold → Reading ReadZone
zone_read meta row left told = do
  files ← zone_files meta row left told
  zone ← unless_refused (of_rule files.names) (zone_of row.origin files.text.rrs)
  Reads (record { zone = zone; names = files.names; left = left_behind left files.text })

-- the row gives an origin of which this holds
abbrev pub row_skips : (Labels → Bool) → MetaRow → Bool
row_skips skips row = option_map_or skips row.origin false

-- what is read of a row that is skipped: a zone of its origin without records, and no file
abbrev pub zone_skipped : MetaRow → Limits → ReadZone
zone_skipped row left = record { zone = record { origin = unwrap_or row.origin []; rrs = [] }; names = []; left = left }

-- the zone of a row's files, unless the row is skipped
abbrev pub zone_unless : (MetaRow → Bool) → List ℕ → MetaRow → Limits → FilesTold → Reading ReadZone
zone_unless skips meta row left told = if skips row then Reads (zone_skipped row left) else zone_read meta row left told

-- no row is skipped
abbrev pub no_row : MetaRow → Bool
no_row row = false

-- the rows before the first one was read: none
abbrev pub no_rows : Limits → ReadRows
no_rows limits = record { left = limits; servers = []; rows = [] }

-- what is told of a row whose zone was read
abbrev pub row_files : Labels → ReadZone → RowFiles
row_files server read = record { server = server; origin = read.zone.origin; files = read.names }

-- the rows so far with one row more, which has this number and may be skipped: its zone is given to its server
unfoldable pub with_row_unless : (MetaRow → Bool) → List ℕ → ℕ → MetaRow → ReadRows → FilesTold → Reading ReadRows
with_row_unless skips meta number row rows told = do
  read ← zone_unless skips meta row rows.left told
  servers ← unless_refused (λ fault. fault) (given number row.server read.zone rows.servers)
  Reads (record { left = read.left; servers = servers; rows = rows.rows ++ row_files row.server read ∷ [] })

-- the rows so far with more rows, which are counted from this number on, and of which some are skipped
unfoldable pub with_rows_unless : (MetaRow → Bool) → List ℕ → ℕ → List MetaRow → ReadRows → FilesTold → Reading ReadRows
with_rows_unless skips meta number [] rows told = Reads rows
with_rows_unless skips meta number (row ∷ more) rows told =
    with_row_unless skips meta number row rows told >>= λ rows. with_rows_unless skips meta (number + 1) more rows told

-- the rows so far with one row more, or with more rows, of which none is skipped
abbrev pub with_row : List ℕ → ℕ → MetaRow → ReadRows → FilesTold → Reading ReadRows
with_row = with_row_unless no_row

abbrev pub with_rows : List ℕ → ℕ → List MetaRow → ReadRows → FilesTold → Reading ReadRows
with_rows = with_rows_unless no_row

-- the metadata that the octets of the metadata file give, or the refusal
unfoldable pub metadata : Limits → List ℕ → FilesTold → Reading Metadata
metadata limits meta told = file_octets limits meta told >>= λ octets. unless_refused of_metadata (metadata_within limits.rows octets)

-- what the files give for a metadata file's name, within the limits, unless rows are skipped: their zones have no records
unfoldable pub conf_unless : (MetaRow → Bool) → Limits → List ℕ → FilesTold → Reading Config
conf_unless skips limits meta told = do
  found ← metadata limits meta told
  rows ← with_rows_unless skips meta 1 found.rows (no_rows limits) told
  Reads (record { tops = found.tops; servers = rows.servers })

-- what the files give for a metadata file's name, within the limits
abbrev pub conf_within : Limits → List ℕ → FilesTold → Reading Config
conf_within = conf_unless no_row

-- what the files give for a metadata file's name, within the usual limits
abbrev pub conf : List ℕ → FilesTold → Reading Config
conf = conf_within usual_limits

-- what the files give for a metadata file's name, within the limits, unless rows are skipped, with each row's server,
-- origin and names of files
unfoldable pub loaded_unless : (MetaRow → Bool) → Limits → List ℕ → FilesTold → Reading Loaded
loaded_unless skips limits meta told = do
  found ← metadata limits meta told
  rows ← with_rows_unless skips meta 1 found.rows (no_rows limits) told
  Reads (record { config = record { tops = found.tops; servers = rows.servers }; rows = rows.rows })

-- what the files give for a metadata file's name, within the limits, with each row's server, origin and names of files
abbrev pub loaded_within : Limits → List ℕ → FilesTold → Reading Loaded
loaded_within = loaded_unless no_row

-- the configuration of what was read, without the rows
abbrev pub config_of : Reading Loaded → Reading Config
config_of reading = reading >>= λ all. Reads all.config
