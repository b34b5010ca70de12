-- Values of JSON (RFC 8259) that are made of lists. The members of an object stand in the order of the octets of their
-- names.
use Rattle.std.specs.Prelude.{ℕ, List, [], ◌∷◌, map}
use Rattle.dns_data.specs.DataText.{data_text}
use Rattle.dns_data.specs.Name.{Labels}
use Rattle.dns_data.specs.Spelling.{name_text}
use Rattle.dns_data.specs.declared.rdata.Rdata.{Rdata}
use Rattle.serde_json.specs.Data.{Data, string, array, object, Items, no_items, item, Members, no_members, member}

-- the values of a list, in order
abbrev pub json_items : List Data → Items
json_items [] = no_items
json_items (value ∷ values) = item value (json_items values)

-- an array of the values of a list, in order
abbrev pub array_of : List Data → Data
array_of values = array (json_items values)

-- members, each a name and a value, in order
abbrev pub json_members : List (List ℕ × Data) → Members
json_members [] = no_members
json_members (one ∷ more) = member one.0 one.1 (json_members more)

-- an object with these members, in order
abbrev pub object_of : List (List ℕ × Data) → Data
object_of members = object (json_members members)

-- a name, by its text
abbrev pub name_value : Labels → Data
name_value name = string (name_text name)

-- data, by their text
abbrev pub data_value : Rdata → Data
data_value rdata = string (data_text rdata)

-- a list of data
abbrev pub texts_value : List Rdata → Data
texts_value rdata = array_of (map data_value rdata)
