-- What a file tells of a part's names. Each line has a word, a space and the text of a name (RFC 1035 section 5.1): `keep`
-- before a name that the part holds, `away` before one that the whole doesn't have, `from` before the first of the part's
-- own names, and `to` before the first name behind them. An empty line tells nothing.
use Rattle.std.specs.Prelude.{ℕ, nat_eq, ◌+◌, ◌==◌, List, [], ◌∷◌, ◌++◌, drop, length, codes, Bool, true, false, ◌&&◌, not, Option, Some, None, is_some, option_and_then, if◌then◌else◌, Result, Ok, Err}
use Rattle.std.specs.List.{slice_split, starts_with}
use Rattle.std.specs.Option.{option_map_or}
use Rattle.std.specs.Ordering.{is_lt}
use Rattle.dns_data.specs.Name.{Labels, name_cmp}
use Rattle.dns_data.specs.Spelling.{name_of_text}
use Rattle.dns_data.specs.declared.fault.NameFault.{NameFault}
use Rattle.part_names.specs.declared.fault.NamesFault.{NamesFault}
use Rattle.part_names.specs.declared.fault.NamesFault.TheVariants.{Line}
use Rattle.part_names.specs.declared.lines.NameWord.{NameWord}
use Rattle.part_names.specs.declared.lines.NameWord.TheVariants.{From, To, Keep, Away}
use Rattle.part_names.specs.declared.names.PartNames.{PartNames}

-- no name
abbrev pub no_names : PartNames
no_names = record { from = None; to = None; held = []; away = [] }

-- the lines of a text: the pieces between line feeds
abbrev pub lines_of : List ℕ → List (List ℕ)
lines_of text = slice_split (λ octet. octet == 10) text

-- the word of a line, and the text behind the space that follows it
abbrev pub word_in : List ℕ → Option (NameWord × List ℕ)
word_in line =
    if starts_with nat_eq line (codes "from ") then Some (From, drop 5 line)
    else (if starts_with nat_eq line (codes "to ") then Some (To, drop 3 line)
    else (if starts_with nat_eq line (codes "keep ") then Some (Keep, drop 5 line)
    else (if starts_with nat_eq line (codes "away ") then Some (Away, drop 5 line) else None)))

-- the names with one more, as its word says; of each bound there is one
abbrev pub with_name : PartNames → NameWord → Labels → Option PartNames
with_name names From name =
    if is_some names.from then None else Some (record { from = Some name; to = names.to; held = names.held; away = names.away })
with_name names To name =
    if is_some names.to then None else Some (record { from = names.from; to = Some name; held = names.held; away = names.away })
with_name names Keep name = Some (record { from = names.from; to = names.to; held = names.held ++ name ∷ []; away = names.away })
with_name names Away name = Some (record { from = names.from; to = names.to; held = names.held; away = names.away ++ name ∷ [] })

-- the names with this one, if there is one
abbrev pub with_read_name : PartNames → NameWord → Result Labels NameFault → Option PartNames
with_read_name names word (Ok name) = with_name names word name
with_read_name names word (Err fault) = None

-- the names with what a line tells
abbrev pub with_line : PartNames → List ℕ → Option PartNames
with_line names line =
    if length line == 0 then Some names
    else option_and_then (λ named. with_read_name names named.0 (name_of_text named.1 [])) (word_in line)

-- the names with what lines tell, or the number of the first that tells nothing, counted on from this one
abbrev pub with_lines : ℕ → PartNames → List (List ℕ) → Result PartNames NamesFault
with_lines number names [] = Ok names
with_lines number names (line ∷ lines) =
    option_map_or (λ next. with_lines (number + 1) next lines) (with_line names line) (Err (Line number))

-- the names that a file's octets tell
abbrev pub names_in : List ℕ → Result PartNames NamesFault
names_in octets = with_lines 1 no_names (lines_of octets)

-- what is answered of names where one was put, or not
abbrev pub if_put : Bool → PartNames → Option PartNames
if_put true names = Some names
if_put false names = None

-- a name that ends the part's own names, if there is one, stands behind this name
abbrev pub ends_behind : Option Labels → Labels → Bool
ends_behind None name = true
ends_behind (Some to) name = is_lt (name_cmp name to)

-- a name that begins the part's own names, if there is one, doesn't stand behind this name
abbrev pub begun_at : Option Labels → Labels → Bool
begun_at None name = true
begun_at (Some from) name = not (is_lt (name_cmp name from))

-- the name is one of the part's own
abbrev pub is_own : PartNames → Labels → Bool
is_own names name = begun_at names.from name && ends_behind names.to name
