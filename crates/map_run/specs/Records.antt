-- The records of a configuration, each with the place from which it was read.
use Rattle.std.specs.Prelude.{ℕ, List, [], ◌∷◌, map, codes, decimal, is_some, if◌then◌else◌}
use Rattle.std.specs.List.{flat_map}
use Rattle.std.specs.Option.{option_map_or}
use Rattle.dns_data.specs.DataText.{separated, data_text}
use Rattle.dns_data.specs.Rdata.{type_of_data}
use Rattle.dns_data.specs.RrType.{word_of}
use Rattle.dns_data.specs.Spelling.{name_text}
use Rattle.dns_data.specs.declared.rdata.Rdata.{Rdata}
use Rattle.dns_data.specs.declared.rdata.Rdata.TheVariants.{Other}
use Rattle.dns_data.specs.declared.rdata.Rr.{Rr}
use Rattle.net_model.specs.declared.config.Config.{Config}
use Rattle.net_model.specs.Nearest.{held_zone}
use Rattle.config_load.specs.Faults.{name_numbered}
use Rattle.config_load.specs.declared.loaded.Loaded.{Loaded}
use Rattle.config_load.specs.declared.loaded.RowFiles.{RowFiles}
use Rattle.map_run.specs.Columns.{columns_line, file_text, as_written}

-- the word of a type beyond the twelve
abbrev pub other_word : Rdata → List ℕ
other_word (Other word tokens) = as_written word
other_word rdata = []

-- the word of the data's type
abbrev pub type_text : Rdata → List ℕ
type_text rdata = option_map_or word_of (type_of_data rdata) (other_word rdata)

-- the tokens of data of a type beyond the twelve
abbrev pub other_tokens : Rdata → List ℕ
other_tokens (Other word tokens) = separated (codes " ") (map as_written tokens)
other_tokens rdata = []

-- the data of a record: those of the twelve types as a report prints them, those of another type as they were written
abbrev pub record_data : Rdata → List ℕ
record_data rdata = if is_some (type_of_data rdata) then data_text rdata else other_tokens rdata

-- the columns of a record: its server, its zone, its owner and its type; the file and the line from which it was read;
-- its data
abbrev pub record_columns : RowFiles → Rr → List (List ℕ)
record_columns row rr =
    name_text row.server ∷ name_text row.origin ∷ name_text rr.owner ∷ type_text rr.rdata
    ∷ file_text (name_numbered row.files rr.file) ∷ decimal rr.line ∷ record_data rr.rdata ∷ []

-- the records of a row's zone, in the order in which they were read
abbrev pub records_of : Config → RowFiles → List Rr
records_of config row = option_map_or (λ zone. zone.rrs) (held_zone config row.server row.origin) []

-- the lines of a row's records
abbrev pub row_text : Config → RowFiles → List ℕ
row_text config row = flat_map (λ rr. columns_line (record_columns row rr)) (records_of config row)

-- the lines of all records, in the order of rows
abbrev pub records_text : Loaded → List ℕ
records_text all = flat_map (row_text all.config) all.rows
