-- The copies of zones: how each stands to the first with its origin.
use Rattle.std.specs.Prelude.{ℕ, ◌+◌, Bool, true, false, ◌&&◌, not, List, [], ◌∷◌, length, codes, decimal, Option, Some, option_map, if◌then◌else◌}
use Rattle.std.specs.List.{find, list_any}
use Rattle.std.specs.Option.{option_map_or}
use Rattle.dns_data.specs.Name.{Labels, name_eq}
use Rattle.dns_data.specs.Spelling.{name_text}
use Rattle.net_model.specs.declared.config.Config.{Config}
use Rattle.net_model.specs.Nearest.{held_zone}
use Rattle.config_load.specs.declared.loaded.Loaded.{Loaded}
use Rattle.config_load.specs.declared.loaded.RowFiles.{RowFiles}
use Rattle.zone_copies.specs.Versions.{are_equal_copies, copy_word, serial_in, version_of}
use Rattle.zone_copies.specs.declared.version.Version.{Version}
use Rattle.zone_copies.specs.declared.version.CopyWord.{CopyWord}
use Rattle.zone_copies.specs.declared.version.CopyWord.TheVariants.{Same, Renumbered, Behind, Ahead, Forgotten, Apart}
use Rattle.map_run.specs.Lines.{by_earlier, line_of}
use Rattle.map_run.specs.declared.lines.Line.{Line}

-- the word of a copy
abbrev pub copy_text : CopyWord → List ℕ
copy_text Same = codes "same"
copy_text Renumbered = codes "renumbered"
copy_text Behind = codes "behind"
copy_text Ahead = codes "ahead"
copy_text Forgotten = codes "forgotten"
copy_text Apart = codes "apart"

-- a copy counts that differs from the first in more than its serial
abbrev pub copy_counts : CopyWord → Bool
copy_counts Same = false
copy_counts Renumbered = false
copy_counts word = true

-- what is compared of the zone with this origin at the server, if it holds one
abbrev pub version_at : Config → Labels → Labels → Option Version
version_at config server origin = option_map version_of (held_zone config server origin)

-- what is compared of a row's zone, if the row's server holds one; each row that was read does
abbrev pub row_version : Config → RowFiles → Option Version
row_version config row = version_at config row.server row.origin

-- the rows' zones have one origin
abbrev pub has_origin_of : RowFiles → RowFiles → Bool
has_origin_of row other = name_eq row.origin other.origin

-- the line of a copy, the row's number before it, beside the first with its origin
abbrev pub copy_line : ℕ → RowFiles → Version → Version → List Line
copy_line number row first own =
    let word = copy_word first own in
    line_of (copy_counts word)
    (copy_text word ∷ decimal number ∷ name_text row.server ∷ name_text row.origin ∷ decimal (serial_in own.soa) ∷ decimal (serial_in first.soa) ∷ []) ∷ []

-- the line of a copy, where there is a first one
abbrev pub line_beside : ℕ → RowFiles → Option Version → Option Version → List Line
line_beside number row (Some first) (Some own) = copy_line number row first own
line_beside number row first own = []

-- the lines of a row behind others: none of the first with its origin
abbrev pub copy_lines : Config → List RowFiles → RowFiles → List Line
copy_lines config before row =
    option_map_or (λ first. line_beside (length before + 1) row (row_version config first) (row_version config row))
    (find (has_origin_of row) before) []

-- the lines of all copies, in the order of rows
abbrev pub copies_of : Loaded → List Line
copies_of all = by_earlier (copy_lines all.config) [] all.rows

-- ---- equal copies

-- both are there, and equal but for the SOA record
abbrev pub equal_versions : Option Version → Option Version → Bool
equal_versions (Some one) (Some other) = are_equal_copies one other
equal_versions one other = false

-- the rows' zones are equal copies: they have one origin, and are equal but for the SOA record
abbrev pub is_equal_copy : Config → RowFiles → RowFiles → Bool
is_equal_copy config row other = has_origin_of row other && equal_versions (row_version config row) (row_version config other)

-- no earlier row's zone is an equal copy
abbrev pub is_first_copy : Config → List RowFiles → RowFiles → Bool
is_first_copy config before row = not (list_any (is_equal_copy config row) before)

-- the row, if no earlier row's zone is an equal copy
abbrev pub if_first_copy : Config → List RowFiles → RowFiles → List RowFiles
if_first_copy config before row = if is_first_copy config before row then row ∷ [] else []

-- the rows of which no earlier one's zone is an equal copy, in order
abbrev pub first_copies : Config → List RowFiles → List RowFiles
first_copies config rows = by_earlier (if_first_copy config) [] rows
