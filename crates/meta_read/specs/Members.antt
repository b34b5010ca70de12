-- Values that serde_json reads, and members of objects. Of members with one name the last counts; a value that is no
-- object has none.
use Rattle.std.specs.Prelude.{ℕ, List, [], ◌∷◌, Option, None, option_and_then, if◌then◌else◌}
use Rattle.std.specs.Option.{option_map}
use Rattle.std.specs.Str.{is_utf8}
use Rattle.serde_json.specs.Data.{Data, Items, no_items, item}
use Rattle.serde_json.specs.Find.{get, as_str, as_array}
use Rattle.serde_json.specs.Read.{read}

-- the value that serde_json reads of a file's octets; it reads UTF-8 alone (RFC 8259 section 8.1)
abbrev pub value_of : List ℕ → Option Data
value_of octets = if is_utf8 octets then read octets else None

-- the values of an array, in order
abbrev pub values_of : Items → List Data
values_of no_items = []
values_of (item value items) = value ∷ values_of items

-- the values of a member that is an array
abbrev pub list_in : Option Data → Option (List Data)
list_in member = option_map values_of (option_and_then as_array member)

-- the values of the array at a key
abbrev pub list_at : List ℕ → Data → Option (List Data)
list_at key value = list_in (get key value)

-- the string at a key
abbrev pub text_at : List ℕ → Data → Option (List ℕ)
text_at key value = option_and_then as_str (get key value)
