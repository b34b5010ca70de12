-- The chain of trust between zones: the DS records of a zone's cuts, and the keys at the origins of the delegated zones.
use Rattle.std.specs.Prelude.{ℕ, Bool, true, false, ◌&&◌, ◌||◌, not, List, [], ◌∷◌, ◌++◌, length, map, codes, decimal, Option, Some, None, if◌then◌else◌, ◌==◌}
use Rattle.std.specs.List.{filter, find, flat_map, list_any}
use Rattle.std.specs.Option.{option_map_or}
use Rattle.dns_data.specs.Name.{Labels, is_among, name_eq}
use Rattle.dns_data.specs.Spelling.{name_text}
use Rattle.dns_data.specs.declared.rdata.Rr.{Rr}
use Rattle.net_model.specs.declared.config.Config.{Config}
use Rattle.net_model.specs.declared.config.Zone.{Zone}
use Rattle.net_model.specs.Nearest.{held_zone}
use Rattle.net_model.specs.Zone.{ns_names}
use Rattle.config_load.specs.declared.loaded.Loaded.{Loaded}
use Rattle.config_load.specs.declared.loaded.RowFiles.{RowFiles}
use Rattle.key_chain.specs.Keys.{digests_of, is_entry_point, is_strong, is_tried, is_zone_key, matches, wire_of}
use Rattle.key_chain.specs.Records.{is_dnskey, is_ds, is_malformed, key_in, signer_in}
use Rattle.key_chain.specs.declared.keys.Key.{Key}
use Rattle.zone_cuts.specs.Cuts.{cuts, is_cut}
use Rattle.map_run.specs.Copies.{first_copies}
use Rattle.map_run.specs.Lines.{if_so, line_of, place_columns}
use Rattle.map_run.specs.declared.chain_lines.ChainWord.{ChainWord}
use Rattle.map_run.specs.declared.chain_lines.ChainWord.TheVariants.{BadData, Misplaced, Unsigned, NoMatch, Unmatched, Untold}
use Rattle.map_run.specs.declared.lines.Line.{Line}
use Rattle.map_run.specs.declared.placed.PlacedKey.{PlacedKey}
use Rattle.map_run.specs.declared.placed.PlacedSigner.{PlacedSigner}

-- the word for DS records and keys
abbrev pub chain_text : ChainWord → List ℕ
chain_text BadData = codes "bad-data"
chain_text Misplaced = codes "misplaced"
chain_text Unsigned = codes "unsigned"
chain_text NoMatch = codes "no-match"
chain_text Unmatched = codes "unmatched"
chain_text Untold = codes "untold"

-- each word counts but the last two
abbrev pub chain_counts : ChainWord → Bool
chain_counts Unmatched = false
chain_counts Untold = false
chain_counts word = true

-- ---- records

-- the record is a DS record of this owner, in whatever form
abbrev pub is_ds_at : Labels → Rr → Bool
is_ds_at owner rr = is_ds rr.rdata && name_eq rr.owner owner

-- the DS records of an owner, in the order in which they were read
abbrev pub ds_records : Zone → Labels → List Rr
ds_records zone owner = filter (is_ds_at owner) zone.rrs

-- the signer that a DS record of a row's zone holds, with the place of the record
abbrev pub placed_signer : RowFiles → Rr → List PlacedSigner
placed_signer row rr = option_map_or (λ signer. record { signer = signer; place = place_columns row (Some rr) } ∷ []) (signer_in rr.rdata) []

-- the signers that DS records of a row's zone hold
abbrev pub signers_of : RowFiles → List Rr → List PlacedSigner
signers_of row rrs = flat_map (placed_signer row) rrs

-- a key for the zone with its digests over the origin's octets on the wire, and the place of its record; of another key
-- nothing
abbrev pub hashed_key : RowFiles → List ℕ → Rr → Key → List PlacedKey
hashed_key row wire rr key =
    if is_zone_key key then record { key = key; digests = digests_of wire key; place = place_columns row (Some rr) } ∷ [] else []

-- the key for the zone that a DNSKEY record of a row's zone holds
abbrev pub placed_key : RowFiles → List ℕ → Rr → List PlacedKey
placed_key row wire rr = option_map_or (hashed_key row wire rr) (key_in rr.rdata) []

-- the record is a DNSKEY record of this owner, in whatever form
abbrev pub is_dnskey_at : Labels → Rr → Bool
is_dnskey_at owner rr = is_dnskey rr.rdata && name_eq rr.owner owner

-- the key for the zone that a record of a row's zone holds at this origin, which has these octets on the wire
abbrev pub key_at : RowFiles → List ℕ → Labels → Rr → List PlacedKey
key_at row wire origin rr = if is_dnskey_at origin rr then placed_key row wire rr else []

-- the keys at the origin of a row's zone, in the order in which they were read
abbrev pub zone_keys : RowFiles → Zone → List PlacedKey
zone_keys row zone = flat_map (key_at row (wire_of zone.origin) zone.origin) zone.rrs

-- ---- lines of records by themselves

-- the line of a word: the row's server and zone, a name, and what stands behind it
abbrev pub chain_line : ChainWord → RowFiles → Labels → List (List ℕ) → Line
chain_line word row name behind =
    line_of (chain_counts word) (chain_text word ∷ name_text row.server ∷ name_text row.origin ∷ name_text name ∷ behind)

-- the line of a record: there is no child, and no tag of a key
abbrev pub record_line : ChainWord → RowFiles → Rr → Line
record_line word row rr = chain_line word row rr.owner ([] ∷ [] ∷ place_columns row (Some rr))

-- the lines of a record by itself: it doesn't have its form; or it is a DS record at a name that is no zone cut (RFC 4035
-- section 2.4)
abbrev pub record_lines : RowFiles → Zone → Rr → List Line
record_lines row zone rr =
    if_so (is_malformed rr.rdata) (record_line BadData row rr ∷ [])
    ++ if_so (is_ds rr.rdata && not (is_cut zone rr.owner)) (record_line Misplaced row rr ∷ [])

-- ---- which signers match

-- some signer has a digest that is stronger than SHA-1
abbrev pub has_strong : List PlacedSigner → Bool
has_strong signers = list_any (λ one. is_strong one.signer) signers

-- the signers that are tried: those of a known type of digest, and beside stronger ones none by SHA-1
abbrev pub tried : List PlacedSigner → List PlacedSigner
tried signers = filter (λ one. is_tried (has_strong signers) one.signer) signers

-- the signer is that of some key
abbrev pub is_matched : List PlacedKey → PlacedSigner → Bool
is_matched keys one = list_any (λ other. matches other.digests one.signer other.key) keys

-- the signers that match no key
abbrev pub unmatched : List PlacedKey → List PlacedSigner → List PlacedSigner
unmatched keys signers = filter (λ one. not (is_matched keys one)) signers

-- ---- lines of a zone cut and a row with the delegated zone

-- a zone cut of a row's zone: its DS records, and the signers that they hold
pub record SignedCut : Type 0 where
  pub row : RowFiles
  pub cut : Labels
  pub rrs : List Rr
  pub signers : List PlacedSigner

-- the zone cut with what its DS records hold
abbrev pub signed_cut : RowFiles → Zone → Labels → SignedCut
signed_cut row zone cut = record { row = row; cut = cut; rrs = ds_records zone cut; signers = signers_of row (ds_records zone cut) }

-- the column of a tag, empty where there is none
abbrev pub tag_text : Option ℕ → List ℕ
tag_text None = []
tag_text (Some tag) = decimal tag

-- the line of a word beside a child: the child's server, a tag and a place stand behind the cut
abbrev pub child_line : ChainWord → SignedCut → RowFiles → Option ℕ → List (List ℕ) → Line
child_line word at child tag place = chain_line word at.row at.cut (name_text child.server ∷ tag_text tag ∷ place)

-- the line of signers of which none matches, at the place of the first
abbrev pub no_match_lines : SignedCut → RowFiles → List PlacedSigner → List Line
no_match_lines at child [] = []
no_match_lines at child (first ∷ signers) = child_line NoMatch at child None first.place ∷ []

-- the line of a signer that matches no key
abbrev pub unmatched_line : SignedCut → RowFiles → PlacedSigner → Line
unmatched_line at child one = child_line Unmatched at child (Some one.signer.tag) one.place

-- the lines of signers by those of them that match no key: these are all, or each has a line beside one that matches (RFC
-- 4035 section 5.2)
abbrev pub match_lines : SignedCut → RowFiles → List PlacedSigner → List PlacedSigner → List Line
match_lines at child signers others =
    if length others == length signers then no_match_lines at child signers else map (unmatched_line at child) others

-- the line of the first key that is a secure entry point, where there is no DS record
abbrev pub untold_lines : SignedCut → RowFiles → List PlacedKey → List Line
untold_lines at child keys =
    option_map_or (λ one. child_line Untold at child (Some one.key.tag) one.place ∷ []) (find (λ one. is_entry_point one.key) keys) []

-- the lines of DS records, in whatever form, and of the child's keys
abbrev pub ds_lines : SignedCut → RowFiles → List Rr → List PlacedKey → List Line
ds_lines at child [] keys = untold_lines at child keys
ds_lines at child (first ∷ rrs) [] = child_line Unsigned at child None (place_columns at.row (Some first)) ∷ []
ds_lines at child (first ∷ rrs) (key ∷ keys) = match_lines at child (tried at.signers) (unmatched (key ∷ keys) (tried at.signers))

-- the lines of a cut beside a row with the delegated zone
abbrev pub child_lines : Config → SignedCut → RowFiles → List Line
child_lines config at child = option_map_or (λ below. ds_lines at child at.rrs (zone_keys child below)) (held_zone config child.server child.origin) []

-- ---- which rows are looked at

-- the row's zone itself names the row's server at its origin
abbrev pub names_itself : Config → RowFiles → Bool
names_itself config row = option_map_or (λ zone. is_among (ns_names zone zone.origin) row.server) (held_zone config row.server row.origin) false

-- the cut is delegated to the row's server: an NS record on either side names it
abbrev pub is_delegated : Config → Zone → Labels → RowFiles → Bool
is_delegated config zone cut row = is_among (ns_names zone cut) row.server || names_itself config row

-- the row's zone has this origin
abbrev pub is_row_at : Labels → RowFiles → Bool
is_row_at origin row = name_eq row.origin origin

-- the rows with the cut as origin to whose servers it is delegated
abbrev pub children : Loaded → Zone → Labels → List RowFiles
children all zone cut = filter (is_delegated all.config zone cut) (filter (is_row_at cut) all.rows)

-- ---- all lines

-- the lines of a cut, of equal copies of the delegated zone beside the first
abbrev pub cut_lines : Loaded → RowFiles → Zone → Labels → List Line
cut_lines all row zone cut = flat_map (child_lines all.config (signed_cut row zone cut)) (first_copies all.config (children all zone cut))

-- the lines of a row's zone: those of records by themselves, then those of its cuts
abbrev pub zone_lines : Loaded → RowFiles → Zone → List Line
zone_lines all row zone = flat_map (record_lines row zone) zone.rrs ++ flat_map (cut_lines all row zone) (cuts zone)

-- the lines of a row
abbrev pub row_lines : Loaded → RowFiles → List Line
row_lines all row = option_map_or (zone_lines all row) (held_zone all.config row.server row.origin) []

-- the lines of all rows, of equal copies of a zone those of the first
abbrev pub chain_of : Loaded → List Line
chain_of all = flat_map (row_lines all) (first_copies all.config all.rows)
