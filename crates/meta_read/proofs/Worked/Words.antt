-- Words for worked values.
use Rattle.std.specs.Prelude.{List, [], ◌∷◌, map, codes, ℕ}
use Rattle.serde_json.specs.Data.{Data, string, array, object, no_members, member}
use Rattle.serde_json.specs.View.{items_of}
use Rattle.dns_data.specs.Name.{Labels}

-- a.t., a server
abbrev pub a : Labels
a = codes "t" ∷ codes "a" ∷ []

-- b.t., another server
abbrev pub b : Labels
b = codes "t" ∷ codes "b" ∷ []

-- a list of values
abbrev pub values : List Data → Data
values items = array (items_of items)

-- a list of strings
abbrev pub strings : List (List ℕ) → Data
strings texts = values (map string texts)

-- metadata of top servers and rows
abbrev pub meta : Data → Data → Data
meta tops rows = object (member (codes "TopNameServers") tops (member (codes "ZoneFiles") rows no_members))

-- metadata of the top server a.t. and rows
abbrev pub with_rows : List Data → Data
with_rows rows = meta (strings (codes "a.t." ∷ [])) (values rows)

-- a row of a file and a server
abbrev pub row : Data → Data → Data
row file server = object (member (codes "FileName") file (member (codes "NameServer") server no_members))

-- a row with an origin besides
abbrev pub row_with : Data → Data → Data → Data
row_with file server origin =
    object (member (codes "FileName") file (member (codes "NameServer") server (member (codes "Origin") origin no_members)))

-- a row that reads
abbrev pub good : List ℕ → Data
good server = row (string (codes "z")) (string server)
