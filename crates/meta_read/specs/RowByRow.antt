-- For the code alone, no public clause cites it: metadata whose rows are read one after another.
use Rattle.std.specs.Prelude.{◌≡◌, ℕ, ◌≤◌, List, length, codes, Option, Some, option_map, Result, Ok, IfSome}
use Rattle.json.specs.Token.{Token}
use Rattle.json.specs.Json as json
use Rattle.json.specs.Json.{Json, value, items, members}
use Rattle.serde_json.specs.Data.{Data, array, object, Members, no_members}
use Rattle.serde_json.specs.Find.{get_member}
use Rattle.serde_json.specs.Read.{of_json, of_items, of_members}
use Rattle.serde_json.specs.View.{view, items_of}
use Rattle.dns_data.specs.Answers.{◌>>=◌}
use Rattle.meta_read.specs.Members.{value_of}
use Rattle.meta_read.specs.Metadata.{first_unhosted, unless_unhosted}
use Rattle.meta_read.specs.Names.{each}
use Rattle.meta_read.specs.Rows.{read_row}
use Rattle.meta_read.specs.Tops.{tops_at}
use Rattle.meta_read.specs.declared.fault.MetaFault.{MetaFault}
use Rattle.meta_read.specs.declared.meta.Meta.{Meta}
use Rattle.meta_read.specs.declared.meta.MetaRow.{MetaRow}
use Rattle.meta_read.specs.declared.row_by_row.FoundMembers.{FoundMembers}

-- the first of these tokens are a value, in which arrays and objects stand at most so deep within one another, and the
-- others come after it
abbrev pub ReadsValue : ℕ → List Token → List Token → Data → Type 0
ReadsValue depth before after datum = (json : Json) × (value depth before ≡ Some (json, after)) × (of_json json ≡ Some datum)

-- the value is a list, of no more values than this, each of which is a row
abbrev pub AreRows : ℕ → List MetaRow → Data → Type 0
AreRows most rows datum =
    (values : List Data) × (datum ≡ array (items_of values)) × (each read_row 1 values ≡ Ok rows) × (length values ≤ most)

-- the first of these tokens are the rows of a list, no more than this, and the bracket behind them
abbrev pub ReadsRows : ℕ → List Token → List Token → List MetaRow → Type 0
ReadsRows most before after rows =
    (list : json.Items) × (values : List Data) × (items (value 125) (length before) before ≡ Some (list, after)) × (of_items list ≡ Some (items_of values))
    × (each read_row 1 values ≡ Ok rows) × (length values ≤ most)

-- where rows are found, they are those of the member
abbrev pub HoldsRows : ℕ → Option (List MetaRow) → Option Data → Type 0
HoldsRows most found member = IfSome found (λ rows. (datum : Data) × (member ≡ Some datum) × AreRows most rows datum)

-- what is found of an object's members
abbrev pub Represents : ℕ → FoundMembers → Members → Type 0
Represents most found members =
    (get_member (codes "TopNameServers") members ≡ option_map view found.tops) × HoldsRows most found.rows (get_member (codes "ZoneFiles") members)

-- the first of these tokens are members, of which this is found, and the brace behind them
abbrev pub ReadsMembers : ℕ → List Token → List Token → FoundMembers → Type 0
ReadsMembers most before after found =
    (list : json.Members) × (all : Members) × (members (value 126) (length before) before ≡ Some (list, after)) × (of_members list no_members ≡ Some all)
    × Represents most found all

-- the octets are an object's text, of whose members this is found
abbrev pub ReadsAs : ℕ → List ℕ → FoundMembers → Type 0
ReadsAs most octets found = (members : Members) × (value_of octets ≡ Some (object members)) × Represents most found members

-- the metadata of these rows, and of the member that names the top servers
abbrev pub with_rows : List MetaRow → Option Data → Result Meta MetaFault
with_rows rows member = do
  tops ← tops_at member
  unless_unhosted (first_unhosted tops rows) (record { tops = tops; rows = rows })
