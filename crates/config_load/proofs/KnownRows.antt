-- Rows whose zones were read, and how their zones are found for later rows.
use Rattle.std.proofs.Common.{◌≡◌, ◌≢◌, ℕ, zero, suc, ◌+◌, ◌-◌, ◌≤◌, Bool, true, false, cond, List, [], ◌∷◌, ◌++◌, length, slice_get, AllPairs, Contains, Option, Some, None, Result, Ok, Err, IfOk, is_eq, if◌then◌else◌, refl, sym, ap, ◌∙◌, subst, inl, inr}
use Rattle.std.specs.Prelude.{IfSome, option_and_then}
use Rattle.std.specs.BTreeMap as map
use Rattle.std.specs.BTreeMap.{is_at}
use Rattle.std.specs.List.{find}
use Rattle.std.specs.Map.{lookup}
use Rattle.std.specs.Option.{option_eq, option_map}
use Rattle.std.specs.Ordering.{nat_cmp}
use Rattle.std.proofs.lemmas.List.{length-append}
use Rattle.std.proofs.lemmas.Option.{get_or_from_slice_get, slice_get_within}
use Rattle.dns_data.specs.Name.{Labels, name_eq}
use Rattle.dns_data.proofs.Membership.{pairs_first, pairs_rest}
use Rattle.dns_data.proofs.Names.{name_eq_decides}
use Rattle.dns_data.proofs.Searches.{found_there}
use Rattle.io_edges.specs.Files.{FilesTold, StaysTold}
use Rattle.meta_read.specs.declared.meta.MetaRow.{MetaRow}
use Rattle.net_model.specs.Configured.{AreConsistent, KeepsWithin}
use Rattle.net_model.specs.Nearest.{zone_with_origin}
use Rattle.net_model.specs.declared.config.Server.{Server}
use Rattle.net_model.specs.declared.config.Zone.{Zone}
use Rattle.config_load.specs.Conf.{row_files, row_skips, with_row_unless, zone_unless}
use Rattle.config_load.specs.Earlier.{AreEarlier, HasPut, HasPutAtMost, IsAlike, IsZoneNamed, WasRead}
use Rattle.config_load.specs.Hosted.{held_in, server_place, zones_of}
use Rattle.config_load.specs.Reading.{Reads}
use Rattle.config_load.specs.Servers.{has_zone, with_zone}
use Rattle.config_load.specs.declared.earlier.EarlierRow.{EarlierRow}
use Rattle.config_load.specs.declared.earlier.EarlierRows.{EarlierRows}
use Rattle.config_load.specs.declared.limits.Limits.{Limits}
use Rattle.config_load.specs.declared.loaded.RowFiles.{RowFiles}
use Rattle.config_load.specs.declared.rows.ReadRows.{ReadRows}
use Rattle.config_load.specs.declared.zone.ReadZone.{ReadZone}
use Rattle.config_load.proofs.ReadAgain.{left_by, unless_again}
use Rattle.config_load.proofs.RowsRead.{GivenRow, row_given, unless_as_long}
use Rattle.config_load.proofs.Steady.{reads_later, unless_is_steady}
use Rattle.config_load.proofs.ZonesGiven.{held_new, held_stays, turned}

module _ {X : Type 0} where
  -- a list has the item at each of its places
  has_at : (xs : List X) (place : ℕ) (x : X) → slice_get xs place ≡ Some x → Contains xs x
  has_at xs place x is = (place, slice_get_within xs place x is, get_or_from_slice_get xs place x x is)

  -- items stay at their places where more follow
  at_more : (xs more : List X) (place : ℕ) (x : X) → slice_get xs place ≡ Some x → slice_get (xs ++ more) place ≡ Some x
  at_more [] more place x is = absurd cc
  at_more (y ∷ xs) more zero x is = is
  at_more (y ∷ xs) more (suc place) x is = at_more xs more place x is

  -- the item behind others stands at their number
  at_last : (xs : List X) (x : X) → slice_get (xs ++ x ∷ []) (length xs) ≡ Some x
  at_last [] x = refl
  at_last (y ∷ xs) x = at_last xs x

-- ---- the zones of a server

-- the server at the place that is known of a name is the first of this name
found_at : (name : Labels) (servers : List Server) (place : ℕ) (server : Server) → server_place name servers ≡ Some place → slice_get servers place ≡ Some server
    → find (λ (server : Server). name_eq server.name name) servers ≡ Some server
found_at name [] place server is here = absurd cc
found_at name (first ∷ servers) place server is here =
    by (name_eq name first.name) (turned first.name name) (server_place name servers) (found_at name servers) is
  where
    by : (same : Bool) → name_eq first.name name ≡ same → (rest : Option ℕ)
        → ((place : ℕ) (server : Server) → rest ≡ Some place → slice_get servers place ≡ Some server → find (λ (server : Server). name_eq server.name name) servers ≡ Some server)
        → (if same then Some 0 else option_map (λ place. suc place) rest) ≡ Some place
        → cond (name_eq first.name name) (Some first) (find (λ (server : Server). name_eq server.name name) servers) ≡ Some server
    by true e rest later is =
        let at : 0 ≡ place = cc in
        ap (λ b. cond b (Some first) (find (λ (server : Server). name_eq server.name name) servers)) e ∙ ap (slice_get (first ∷ servers)) at ∙ here
    by false e (Some p) later is =
        let at : suc p ≡ place = cc in
        ap (λ b. cond b (Some first) (find (λ (server : Server). name_eq server.name name) servers)) e
        ∙ later p server refl (ap (slice_get (first ∷ servers)) at ∙ here)
    by false e None later is = absurd cc

-- the zones of the server at the place that is known of a name
pub zones_at : (name : Labels) (servers : List Server) (place : ℕ) (server : Server) → server_place name servers ≡ Some place → slice_get servers place ≡ Some server
    → zones_of servers name ≡ Some server.zones
zones_at name servers place server is here = ap (option_map (λ (server : Server). server.zones)) (found_at name servers place server is here)

-- of zones with different origins the one at a place is found by its origin
zone_at : (origin : Labels) (zones : List Zone) (place : ℕ) (zone : Zone) → AllPairs (λ (a b : Zone). a.origin ≢ b.origin) zones → slice_get zones place ≡ Some zone → zone.origin ≡ origin
    → find (λ (zone : Zone). name_eq zone.origin origin) zones ≡ Some zone
zone_at origin [] place zone differ here is = absurd cc
zone_at origin (first ∷ zones) zero zone differ here is =
    let same : first ≡ zone = cc in
    ap (λ b. cond b (Some first) (find (λ (zone : Zone). name_eq zone.origin origin) zones)) ((name_eq_decides first.origin origin).1 (ap (λ (z : Zone). z.origin) same ∙ is))
    ∙ ap Some same
zone_at origin (first ∷ zones) (suc place) zone differ here is =
    by (name_eq first.origin origin) refl (zone_at origin zones place zone (pairs_rest (λ (a b : Zone). a.origin ≢ b.origin) first zones differ) here is)
  where
    by : (same : Bool) → name_eq first.origin origin ≡ same → find (λ (zone : Zone). name_eq zone.origin origin) zones ≡ Some zone
        → cond same (Some first) (find (λ (zone : Zone). name_eq zone.origin origin) zones) ≡ Some zone
    by true e rest = absurd (pairs_first (λ (a b : Zone). a.origin ≢ b.origin) first zones differ zone (has_at zones place zone here) ((name_eq_decides first.origin origin).0 e ∙ sym is))
    by false e rest = rest

-- a zone of a server of consistent ones is held by the server, and its records lie at or below its origin
pub zone_held : (servers : List Server) → AreConsistent servers → (name origin : Labels) (zones : List Zone) (place : ℕ) (zone : Zone) → zones_of servers name ≡ Some zones
    → slice_get zones place ≡ Some zone → zone.origin ≡ origin → (held_in servers name origin ≡ Some zone) × KeepsWithin zone
zone_held servers are name origin zones place zone found here is =
    by (find (λ (server : Server). name_eq server.name name) servers) refl found
  where
    by : (server : Option Server) → find (λ (server : Server). name_eq server.name name) servers ≡ server → option_map (λ (server : Server). server.zones) server ≡ Some zones
        → (held_in servers name origin ≡ Some zone) × KeepsWithin zone
    by None e got = absurd cc
    by (Some server) e got =
        let its : server.zones ≡ zones = cc in
        let there : slice_get server.zones place ≡ Some zone = ap (λ (all : List Zone). slice_get all place) its ∙ here in
        let consistent = are.each server (found_there (λ (server : Server). name_eq server.name name) servers server e).0 in (
          ap (option_and_then (λ (holder : Server). zone_with_origin holder origin)) e ∙ zone_at origin server.zones place zone consistent.origins there is,
          consistent.within zone (has_at server.zones place zone there),
        )

-- ---- rows of one file

-- origins that are one are equal
pub same_origin : (a b : Option Labels) → option_eq name_eq a b ≡ true → a ≡ b
same_origin None None e = refl
same_origin None (Some b) e = absurd cc
same_origin (Some a) None e = absurd cc
same_origin (Some a) (Some b) e = ap Some ((name_eq_decides a b).0 e)

-- the zone of a known row is what reading gives for a row of its file and origin, if as much may be read still as was read
pub known_again : (skips : Labels → Bool) (meta : List ℕ) (told : FilesTold) (all : List MetaRow) (row : MetaRow) (rows : ReadRows) (known : EarlierRow) (named : RowFiles) (again : ReadZone)
    → ((earlier : MetaRow) → slice_get all known.row ≡ Some earlier → WasRead (row_skips skips) meta told earlier rows known) → IsAlike all known.row row → slice_get rows.rows known.row ≡ Some named
    → known.records ≤ rows.left.records → known.includes ≤ rows.left.includes → IsZoneNamed known named rows again → zone_unless (row_skips skips) meta row rows.left told ≡ Reads again
known_again skips meta told all row rows known named again each alike there records includes is =
    unless_again skips meta alike.earlier row was.left rows.left told was.read was.reads alike.file alike.origin (sym was.as_long)
    (subst (λ n. n ≤ rows.left.records) was.records records) (subst (λ n. n ≤ rows.left.includes) was.includes includes)
    ∙ (λ i. Reads (record { zone = zone i; names = names i; left = left_by rows.left (sym was.records i) (sym was.includes i) }))
    ∙ ap (λ (left : Limits). Reads (record { zone = again.zone; names = again.names; left = left })) (sym is.left)
  where
    was : WasRead (row_skips skips) meta told alike.earlier rows known
    was = each alike.earlier alike.there

    same : row_files alike.earlier.server was.read ≡ named
    same = let e : Some (row_files alike.earlier.server was.read) ≡ Some named = sym was.named ∙ there in cc

    names : was.read.names ≡ again.names
    names = ap (λ (one : RowFiles). one.files) same ∙ sym is.names

    zone : was.read.zone ≡ again.zone
    zone =
        let e : Some was.read.zone ≡ Some again.zone = sym was.held ∙ (λ i. held_in rows.servers (same i).server (same i).origin) ∙ is.held in
        cc

-- the rows with one more whose zone was read
abbrev with_one : MetaRow → ReadZone → ReadRows → ReadRows
with_one row read rows = record { left = read.left; servers = with_zone row.server read.zone rows.servers; rows = rows.rows ++ row_files row.server read ∷ [] }

module _ (skips : MetaRow → Bool) (meta : List ℕ) (told : FilesTold) (rows : ReadRows) (row : MetaRow) (read : ReadZone) (reads : zone_unless skips meta row rows.left told ≡ Reads read)
    (new : has_zone row.server read.zone.origin rows.servers ≡ false) where
  -- a row that was read is one still, when another was read
  still_read : (before : FilesTold) (other : MetaRow) (known : EarlierRow) → StaysTold before told → WasRead skips meta before other rows known → WasRead skips meta told other (with_one row read rows) known
  still_read before other known stays was = record {
    left = was.left;
    as_long = was.as_long ∙ sym (unless_as_long meta told skips row rows.left read reads);
    read = was.read;
    reads = reads_later (unless_is_steady skips meta other was.left) before told was.read stays was.reads;
    named = at_more rows.rows (row_files row.server read ∷ []) known.row (row_files other.server was.read) was.named;
    held = held_stays row.server read.zone rows.servers new other.server was.read.zone.origin was.read.zone was.held;
    records = was.records;
    includes = was.includes;
  }

  -- the row itself was read
  now_read : (known : EarlierRow) → known.row ≡ length rows.rows → known.records ≡ rows.left.records - read.left.records → known.includes ≡ rows.left.includes - read.left.includes
      → WasRead skips meta told row (with_one row read rows) known
  now_read known at records includes = record {
    left = rows.left;
    as_long = sym (unless_as_long meta told skips row rows.left read reads);
    read = read;
    reads = reads;
    named = ap (slice_get (rows.rows ++ row_files row.server read ∷ [])) at ∙ at_last rows.rows (row_files row.server read);
    held = held_new row.server read.zone rows.servers new;
    records = records;
    includes = includes;
  }

-- the known rows with one more, which was read
pub earlier_more : (skips : MetaRow → Bool) (meta : List ℕ) (all : List MetaRow) (before told : FilesTold) (number place : ℕ) (row : MetaRow) (rows after : ReadRows) (old new : EarlierRows) → StaysTold before told
    → AreEarlier skips meta before all rows old → length rows.rows ≡ place → slice_get all place ≡ Some row → with_row_unless skips meta number row rows told ≡ Reads after → HasPutAtMost place rows.left after.left old new
    → AreEarlier skips meta told all after new
earlier_more skips meta all before told number place row rows after old new stays are count there reads put key known is other at =
    subst (λ (a : ReadRows). WasRead skips meta told other a known) one.made (elim put [
      | inl same ↦ earlier_stays (ap (λ (e : EarlierRows). map.get nat_cmp e.by_number key) (sym same) ∙ is)
      | inr more ↦ by more (is_at (nat_cmp more.number) key) (sym (more.updates.0 key) ∙ is)
    ])
  where
    one : GivenRow skips meta told row rows after
    one = row_given meta told skips number row rows after reads

    fresh : ℕ → EarlierRow
    fresh zone = record { row = place; zone = zone; records = rows.left.records - after.left.records; includes = rows.left.includes - after.left.includes }

    earlier_stays : map.get nat_cmp old.by_number key ≡ Some known → WasRead skips meta told other (with_one row one.read rows) known
    earlier_stays e = still_read skips meta told rows row one.read one.reads one.new before other known stays (are key known e other at)

    left : one.read.left ≡ after.left
    left = ap (λ (a : ReadRows). a.left) one.made

    by : (put : HasPut place rows.left after.left old new) (same : Bool)
        → cond same (Some (fresh put.zone)) (map.get nat_cmp old.by_number key) ≡ Some known
        → WasRead skips meta told other (with_one row one.read rows) known
    by put true e =
        let last : fresh put.zone ≡ known = cc in
        let at_place : place ≡ known.row = ap (λ (k : EarlierRow). k.row) last in
        let its : Some row ≡ Some other = sym there ∙ ap (slice_get all) at_place ∙ at in
        let this : row ≡ other = cc in
        subst (λ (r : MetaRow). WasRead skips meta told r (with_one row one.read rows) known) this
        (now_read skips meta told rows row one.read one.reads one.new known (sym at_place ∙ sym count)
        (ap (λ (k : EarlierRow). k.records) (sym last) ∙ ap (λ (l : Limits). rows.left.records - l.records) (sym left))
        (ap (λ (k : EarlierRow). k.includes) (sym last) ∙ ap (λ (l : Limits). rows.left.includes - l.includes) (sym left)))
    by put false e = earlier_stays e

-- a row that was read is one row more
pub rows_count : (skips : MetaRow → Bool) (meta : List ℕ) (told : FilesTold) (number : ℕ) (row : MetaRow) (rows after : ReadRows) → with_row_unless skips meta number row rows told ≡ Reads after → length after.rows ≡ length rows.rows + 1
rows_count skips meta told number row rows after reads =
    let one = row_given meta told skips number row rows after reads in
    ap (λ (a : ReadRows). length a.rows) (sym one.made) ∙ length-append rows.rows (row_files row.server one.read ∷ [])

-- no row is known where there is no entry
pub none_earlier : (skips : MetaRow → Bool) (meta : List ℕ) (told : FilesTold) (all : List MetaRow) (rows : ReadRows) (earlier : EarlierRows) → map.IsEmpty earlier.by_number → AreEarlier skips meta told all rows earlier
none_earlier skips meta told all rows earlier empty number known is =
    let none : None ≡ Some known = ap (λ (entries : List (ℕ × EarlierRow)). lookup (λ (key : ℕ). is_eq (nat_cmp number key)) entries) (sym empty) ∙ is in
    absurd cc

-- what holds of a zone that is taken over holds where something weaker does
pub if_again : {E : Type 0} {P Q : ReadZone → Type 0} (result : Result (Option ReadZone) E) → ((read : ReadZone) → P read → Q read) → IfOk result (λ again. IfSome again P) → IfOk result (λ again. IfSome again Q)
if_again (Ok None) weaker h = tt
if_again (Ok (Some read)) weaker h = weaker read h
if_again (Err fault) weaker h = tt
