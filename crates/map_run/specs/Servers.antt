-- The names of name servers: those that NS records name at origins and at zone cuts, and those that are configured.
use Rattle.std.specs.Prelude.{ℕ, Bool, true, false, List, [], ◌∷◌, ◌++◌, length, map, codes, decimal, Some, not, if◌then◌else◌, ◌==◌}
use Rattle.std.specs.List.{filter, flat_map}
use Rattle.std.specs.Option.{option_map_or}
use Rattle.dns_data.specs.Name.{Labels, name_cmp, name_eq}
use Rattle.dns_data.specs.Spelling.{name_text}
use Rattle.dns_data.specs.declared.rdata.Rr.{Rr}
use Rattle.net_model.specs.declared.config.Config.{Config}
use Rattle.net_model.specs.declared.config.Zone.{Zone}
use Rattle.net_model.specs.Nearest.{held_zone, is_configured, server_names}
use Rattle.net_model.specs.Order.{in_order}
use Rattle.config_load.specs.declared.loaded.Loaded.{Loaded}
use Rattle.config_load.specs.declared.loaded.RowFiles.{RowFiles}
use Rattle.run_endings.specs.declared.ending.Ending.{Ending}
use Rattle.zone_cuts.specs.Cuts.{server_named_by}
use Rattle.name_ends.specs.Ends.{is_answered, is_dead}
use Rattle.name_ends.specs.declared.ends.NameEnds.{NameEnds}
use Rattle.map_run.specs.Asked.{GivenByEnds}
use Rattle.map_run.specs.Lines.{line_of, place_columns}
use Rattle.map_run.specs.declared.lines.Line.{Line}
use Rattle.map_run.specs.declared.servers.ServerWord.{ServerWord}
use Rattle.map_run.specs.declared.servers.ServerWord.TheVariants.{Unnamed, Dead, Named, NoRow, Elsewhere}

-- what an NS record names: the name server, the owner, whether that is the origin, and the columns of the record's place
pub record Naming : Type 0 where
  pub server : Labels
  pub owner : Labels
  pub at_origin : Bool
  pub place : List (List ℕ)

-- what a record names that is an NS record at the origin or at a zone cut of a row's zone
abbrev pub naming_of : RowFiles → Zone → Rr → Labels → Naming
naming_of row zone rr server =
    record { server = server; owner = rr.owner; at_origin = name_eq rr.owner zone.origin; place = place_columns row (Some rr) }

-- what a record of a row's zone names
abbrev pub namings_at : RowFiles → Zone → Rr → List Naming
namings_at row zone rr = option_map_or (λ server. naming_of row zone rr server ∷ []) (server_named_by zone rr) []

-- what the records of a row's zone name, in the order in which they were read
abbrev pub row_namings : Config → RowFiles → List Naming
row_namings config row = option_map_or (λ zone. flat_map (namings_at row zone) zone.rrs) (held_zone config row.server row.origin) []

-- what all records name, in the order of rows
abbrev pub namings_of : Loaded → List Naming
namings_of all = flat_map (row_namings all.config) all.rows

-- it names the server
abbrev pub names_server : Labels → Naming → Bool
names_server name naming = name_eq naming.server name

-- what names the server
abbrev pub namings_for : List Naming → Labels → List Naming
namings_for namings name = filter (names_server name) namings

-- the owner of the record is an origin, or is a zone cut
abbrev pub is_at : Bool → Naming → Bool
is_at true naming = naming.at_origin
is_at false naming = not naming.at_origin

-- the owner of a record, if it is an origin, or if it is a zone cut
abbrev pub owner_if : Bool → Naming → List Labels
owner_if at_origin naming = if is_at at_origin naming then naming.owner ∷ [] else []

-- the origins, or the zone cuts, of records
abbrev pub owners_of : Bool → List Naming → List Labels
owners_of at_origin namings = flat_map (owner_if at_origin) namings

-- how many different origins, or cuts, name a server
abbrev pub owner_count : Bool → List Naming → ℕ
owner_count at_origin namings = length (in_order name_cmp (owners_of at_origin namings))

-- the place of the first record that names a server
abbrev pub first_place : List Naming → List (List ℕ)
first_place [] = [] ∷ [] ∷ []
first_place (naming ∷ namings) = naming.place

-- the word of a name server's name: nothing names it; it is dead; it is configured; it isn't, though some walk of it ends
-- in an address; or it is served elsewhere
abbrev pub server_word : NameEnds → Bool → Bool → ServerWord
server_word ends configured unnamed =
    if unnamed then Unnamed
    else (if is_dead ends then Dead
    else (if configured then Named else (if is_answered ends then NoRow else Elsewhere)))

-- the text of the word
abbrev pub server_text : ServerWord → List ℕ
server_text Unnamed = codes "unnamed"
server_text Dead = codes "dead"
server_text Named = codes "named"
server_text NoRow = codes "no-row"
server_text Elsewhere = codes "elsewhere"

-- a name counts that is dead, or that has no row though its address is known
abbrev pub server_counts : ServerWord → Bool
server_counts Dead = true
server_counts NoRow = true
server_counts word = false

-- the columns of a line: a word, a name, how many different origins and how many different cuts name it, and the place of
-- the first record that does
abbrev pub server_columns : List ℕ → Labels → List Naming → List (List ℕ)
server_columns word name namings =
    word ∷ name_text name ∷ decimal (owner_count true namings) ∷ decimal (owner_count false namings) ∷ first_place namings

-- the line of a name with a word, by what names it
abbrev pub word_line : ServerWord → Labels → List Naming → Line
word_line word name namings = line_of (server_counts word) (server_columns (server_text word) name namings)

-- the line of a name, by what names it
abbrev pub server_line : NameEnds → Bool → Labels → List Naming → Line
server_line ends configured name namings = word_line (server_word ends configured (length namings == 0)) name namings

-- the names that are listed: those that records name, and those of the configured servers, in the order of names
abbrev pub listed_names : Loaded → List Labels
listed_names all = in_order name_cmp (map (λ naming. naming.server) (namings_of all) ++ server_names all.config)

-- the lines of all names, by how the walks of each end
abbrev pub servers_of : Loaded → (Labels → NameEnds) → List Line
servers_of all ends =
    map (λ name. server_line (ends name) (is_configured all.config name) name (namings_for (namings_of all) name)) (listed_names all)

-- what `servers` gives
abbrev pub IsServers : Loaded → Ending → Type 0
IsServers all ending = GivenByEnds all.config (servers_of all) ending
