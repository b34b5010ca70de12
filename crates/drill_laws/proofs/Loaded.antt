-- The files of a drill give a configuration.
use Rattle.std.proofs.Common.{◌≡◌, ℕ, zero, suc, ◌+◌, ◌-◌, ◌*◌, ◌<◌, ◌≤◌, Bool, true, false, ◌&&◌, List, [], ◌∷◌, ◌++◌, map, length, codes, decimal, None, Result, Ok, if◌then◌else◌, nat_le, refl, ap, ◌∙◌, arith}
use Rattle.std.specs.List.{AllByRecursion, range_with_len}
use Rattle.std.proofs.Math.Nat.{le-min}
use Rattle.std.proofs.lemmas.Bool.Decides.{nat_tests}
use Rattle.dns_data.specs.Name.{Labels, name_eq}
use Rattle.dns_data.proofs.Names.{all_push, all_so}
use Rattle.io_edges.specs.Files.{FilesTold, Holds}
use Rattle.master_read.specs.ZoneText.{zone_text}
use Rattle.master_read.specs.declared.zone_text.ZoneText.{ZoneText}
use Rattle.meta_read.specs.Metadata.{metadata_within}
use Rattle.meta_read.specs.declared.fault.MetaFault.{MetaFault}
use Rattle.meta_read.specs.declared.meta.Meta.{Meta as Metadata}
use Rattle.meta_read.specs.declared.meta.MetaRow.{MetaRow}
use Rattle.net_model.specs.declared.config.Config.{Config}
use Rattle.net_model.specs.declared.config.Server.{Server}
use Rattle.net_model.specs.declared.config.Zone.{Zone}
use Rattle.zone_rules.specs.ZoneOf.{zone_of}
use Rattle.config_load.specs.Conf.{left_behind, settled, files_behind, zone_files, zone_read, no_rows, with_row, with_row_unless, with_rows, with_rows_unless, metadata, conf_unless, conf_within}
use Rattle.config_load.specs.Faults.{of_metadata, of_rule}
use Rattle.config_load.specs.Joined.{joined}
use Rattle.config_load.specs.Limits.{AreUsual, most_octets}
use Rattle.config_load.specs.Reading.{Reading, Reads, Refuses, Unknown, ◌>>=◌, unless_refused, told_octets, file_octets}
use Rattle.config_load.specs.Servers.{given}
use Rattle.config_load.specs.declared.fault.LoadFault.{LoadFault}
use Rattle.config_load.specs.declared.fault.LoadFault.TheVariants.{TooLong}
use Rattle.config_load.specs.declared.limits.Limits.{Limits}
use Rattle.config_load.specs.declared.loaded.RowFiles.{RowFiles}
use Rattle.zone_maker.specs.Drill.{zone_numbers, meta_text, root_text, made_zone_text, zone_file}
use Rattle.zone_maker.specs.Source.{drill_told}
use Rattle.drill_laws.proofs.Rows.{rows_rrs, text_of_rows}
use Rattle.drill_laws.proofs.Names.{zone_name, host_name}
use Rattle.drill_laws.proofs.DrillRows.{root_rows, root_rows_are, root_rows_count, zone_rows, zone_rows_are, zone_rows_few}
use Rattle.drill_laws.proofs.DrillTexts.{root_same, zone_same}
use Rattle.drill_laws.proofs.FitRoot.{labels_apart, root_zone}
use Rattle.drill_laws.proofs.FitZone.{made_zone}
use Rattle.drill_laws.proofs.Held.{meta_told, root_told, zone_told}
use Rattle.drill_laws.proofs.Sizes.{meta_size, root_size, zone_size}
use Rattle.drill_laws.proofs.MetaRead.{zone_row, root_row, top, drill_meta, meta_given}
use Rattle.drill_laws.proofs.Servers.{IsNewServer, with_server, given_new}

-- the metadata's name
abbrev meta : List ℕ
meta = codes "meta.json"

-- the reading gives a value
abbrev GivesSome : {A : Type 0} → Reading A → Type 0
GivesSome {A} reading = (value : A) × (reading ≡ Reads value)

-- ---- steps that give a value

goes_on : {A B : Type 0} (said : Reading A) (value : A) (next : A → Reading B) → said ≡ Reads value → (said >>= next) ≡ next value
goes_on {A} said value next is = ap (λ (given : Reading A). given >>= next) is

not_refused : {T E B : Type 0} (refusal : E → LoadFault) (said : Result T E) (value : T) (next : T → Reading B) → said ≡ Ok value → (unless_refused refusal said >>= next) ≡ next value
not_refused {T} {E} refusal said value next is = ap (λ (given : Result T E). unless_refused refusal given >>= next) is

-- where what follows gives something, the whole gives it
gives_behind : {A B : Type 0} (said : Reading A) (value : A) (next : A → Reading B) → said ≡ Reads value → GivesSome (next value) → GivesSome (said >>= next)
gives_behind said value next is (last, gives) = (last, goes_on said value next is ∙ gives)

-- ---- a file, and the zone of a row

file_read : (limits : Limits) (told : FilesTold) (name text : List ℕ) → told name ≡ Holds text → 16777216 ≤ limits.octets → length text ≤ 16777216
    → file_octets limits name told ≡ Reads text
file_read limits told name text holds enough fits =
    let within : length text ≤ most_octets limits = le-min (omega arith) (omega arith) in
    let short : nat_le (length text) (most_octets limits) ≡ true = grind (arith, nat_tests) in
    ap (told_octets limits name) holds
    ∙ ap (λ (b : Bool). if b then Reads text else Refuses (TooLong name)) short

-- a file that includes none
one_file : (told : FilesTold) (times : ℕ) (names texts : List (List ℕ)) (text : ZoneText) (left : Limits) → zone_text [] left.records left.includes texts ≡ Ok text
    → files_behind meta [] left times names texts told ≡ Reads (record { names = names; text = text })
unfolding files_behind
one_file told zero names texts text left gives = ap (settled names (λ file. Unknown (joined meta file))) gives
one_file told (suc times) names texts text left gives =
    ap (settled names (λ file. file_octets left (joined meta file) told >>= λ octets. files_behind meta [] left times (names ++ joined meta file ∷ []) (texts ++ octets ∷ []) told)) gives

-- What is known of a row's file: its octets, what they give where so much may be read, and the zone of that.
record IsRead (told : FilesTold) (left : Limits) (file : List ℕ) (records : ZoneText) (zone : Zone) : Type 0 where
  octets : List ℕ
  named : joined meta file ≡ file
  holds : told file ≡ Holds octets
  enough : 16777216 ≤ left.octets
  short : length octets ≤ 16777216
  gives : zone_text [] left.records left.includes (octets ∷ []) ≡ Ok records
  keeps : zone_of None records.rrs ≡ Ok zone

module _ (told : FilesTold) (file : List ℕ) (records : ZoneText) (zone : Zone) (server : Labels) where
  abbrev row : MetaRow
  row = record { file = file; server = server; origin = None }

  files_read : (left : Limits) → IsRead told left file records zone → zone_files meta row left told ≡ Reads (record { names = file ∷ []; text = records })
  unfolding zone_files
  files_read left is =
      ap (λ (name : List ℕ). file_octets left name told >>= (λ text. files_behind meta [] left left.includes (name ∷ []) (text ∷ []) told)) is.named
      ∙ goes_on (file_octets left file told) is.octets (λ text. files_behind meta [] left left.includes (file ∷ []) (text ∷ []) told) (file_read left told file is.octets is.holds is.enough is.short)
      ∙ one_file told left.includes (file ∷ []) (is.octets ∷ []) records left is.gives

  zone_is_read : (left : Limits) → IsRead told left file records zone
      → zone_read meta row left told ≡ Reads (record { zone = zone; names = file ∷ []; left = left_behind left records })
  unfolding zone_read
  zone_is_read left is =
      goes_on (zone_files meta row left told) (record { names = file ∷ []; text = records })
      (λ files. unless_refused (of_rule files.names) (zone_of None files.text.rrs) >>= (λ found. Reads (record { zone = found; names = files.names; left = left_behind left files.text }))) (files_read left is)
      ∙ not_refused (of_rule (file ∷ [])) (zone_of None records.rrs) zone (λ found. Reads (record { zone = found; names = file ∷ []; left = left_behind left records })) is.keeps

  -- what is told of the row
  abbrev files_of : RowFiles
  files_of = record { server = server; origin = zone.origin; files = file ∷ [] }

  row_read : (number : ℕ) (servers : List Server) (done : List RowFiles) → IsNewServer server servers → (left : Limits) → IsRead told left file records zone
      → with_row meta number row (record { left = left; servers = servers; rows = done }) told
      ≡ Reads (record { left = left_behind left records; servers = with_server server zone servers; rows = done ++ files_of ∷ [] })
  unfolding with_row_unless
  row_read number servers done new left is =
      goes_on (zone_read meta row left told) (record { zone = zone; names = file ∷ []; left = left_behind left records })
      (λ read. unless_refused (λ fault. fault) (given number server read.zone servers)
      >>= (λ all. Reads (record { left = read.left; servers = all; rows = done ++ (record { server = server; origin = read.zone.origin; files = read.names }) ∷ [] }))) (zone_is_read left is)
      ∙ not_refused (λ fault. fault) (given number server zone servers) (with_server server zone servers)
      (λ all. Reads (record { left = left_behind left records; servers = all; rows = done ++ files_of ∷ [] })) (given_new number server zone servers new)

-- ---- the rows of the zones

-- the server isn't that of a zone from this number on
abbrev IsEarlier : ℕ → Server → Type 0
IsEarlier from server = (j : ℕ) → from ≤ j → j < 10000 → name_eq (host_name (codes "ns") (decimal j)) server.name ≡ false

module _ (n : ℕ) (few : n ≤ 5000) (limits : Limits) (usual : AreUsual limits) where
  -- what a zone's file gives
  abbrev zone_records : ℕ → ZoneText
  zone_records i = record { rrs = rows_rrs 2 (zone_rows n i); seen = length (zone_rows n i); included = 0 }

  abbrev zone_of_records : ℕ → Zone
  zone_of_records i = record { origin = zone_name (decimal i); rrs = rows_rrs 2 (zone_rows n i) }

  zone_is : (i : ℕ) (left : Limits) → i < n → 16777216 ≤ left.octets → 6 ≤ left.records → IsRead (drill_told n) left (zone_file i) (zone_records i) (zone_of_records i)
  zone_is i left within enough fits = record {
    octets = made_zone_text n i;
    named = refl;
    holds = zone_told n i within few;
    enough = enough;
    short = zone_size n i (omega arith);
    gives = text_of_rows left.records left.includes (made_zone_text n i) (zone_rows n i) (zone_same n i) (zone_rows_are n i within few) (omega (arith, zone_rows_few n i));
    keeps = made_zone n i;
  }

  rows_read : (a k number : ℕ) (servers : List Server) (done : List RowFiles) → a + k ≡ n → AllByRecursion (IsEarlier a) servers → (left : Limits) → 16777216 ≤ left.octets → 6 * k ≤ left.records
      → GivesSome (with_rows meta number (map zone_row (range_with_len a k)) (record { left = left; servers = servers; rows = done }) (drill_told n))
  unfolding with_rows_unless
  rows_read a zero number servers done all earlier left enough fits = (record { left = left; servers = servers; rows = done }, refl)
  rows_read a (suc k) number servers done all earlier left enough fits =
      let within : a < n = omega arith in
      let name : Labels = host_name (codes "ns") (decimal a) in
      let server : Server = record { name = name; zones = zone_of_records a ∷ [] } in
      let new : IsNewServer name servers =
      all_so (IsEarlier a) (λ other. name_eq name other.name ≡ false) servers (λ other is. is a (omega arith) (omega arith)) earlier in
      let before : AllByRecursion (IsEarlier (a + 1)) servers =
      all_so (IsEarlier a) (IsEarlier (a + 1)) servers (λ other is j above below. is j (omega arith) below) earlier in
      let here : IsEarlier (a + 1) server = λ j above below. ap (λ (b : Bool). b && true) (labels_apart j a (λ e. omega arith) below (omega arith)) in
      let room : 6 * k ≤ left.records - length (zone_rows n a) = omega (arith, fits, zone_rows_few n a) in
      let some : 6 ≤ left.records = omega (arith, fits) in
      let left_now = left_behind left (zone_records a) in
      let done_now : List RowFiles = done ++ files_of (drill_told n) (zone_file a) (zone_records a) (zone_of_records a) name ∷ [] in
      gives_behind (with_row meta number (zone_row a) (record { left = left; servers = servers; rows = done }) (drill_told n))
      (record { left = left_now; servers = servers ++ server ∷ []; rows = done_now })
      (λ rows. with_rows meta (number + 1) (map zone_row (range_with_len (a + 1) k)) rows (drill_told n))
      (row_read (drill_told n) (zone_file a) (zone_records a) (zone_of_records a) name number servers done new left (zone_is a left within enough some))
      (rows_read (a + 1) k (number + 1) (servers ++ server ∷ []) done_now (omega arith) (all_push (IsEarlier (a + 1)) servers server before here) left_now enough room)

  -- ---- the metadata, and the row of the root zone

  metadata_read : metadata limits meta (drill_told n) ≡ Reads (drill_meta n)
  unfolding metadata
  metadata_read =
      goes_on (file_octets limits meta (drill_told n)) (meta_text n) (λ octets. unless_refused of_metadata (metadata_within limits.rows octets)) (file_read limits (drill_told n) meta (meta_text n) (meta_told n) usual.octets (meta_size n few))
      ∙ ap (λ (said : Result Metadata MetaFault). unless_refused of_metadata said) (meta_given limits.rows n usual.rows few)

  abbrev root_records : ZoneText
  root_records = record { rrs = rows_rrs 2 (root_rows n); seen = length (root_rows n); included = 0 }

  abbrev root_of_records : Zone
  root_of_records = record { origin = []; rrs = rows_rrs 2 (root_rows n) }

  root_is : IsRead (drill_told n) limits (codes "root.zone") root_records root_of_records
  root_is = record {
    octets = root_text n;
    named = refl;
    holds = root_told n;
    enough = usual.octets;
    short = root_size n few;
    gives = text_of_rows limits.records limits.includes (root_text n) (root_rows n) (root_same n) (root_rows_are n few) (omega (arith, root_rows_count n, usual.records));
    keeps = root_zone n few;
  }

  abbrev root_server : Server
  root_server = record { name = top; zones = root_of_records ∷ [] }

  all_rows : GivesSome (with_rows meta 1 (root_row ∷ map zone_row (zone_numbers n)) (no_rows limits) (drill_told n))
  unfolding with_rows_unless
  all_rows =
      let room : 6 * n ≤ limits.records - length (root_rows n) = omega (arith, root_rows_count n, usual.records) in
      let left_now = left_behind limits root_records in
      let done : List RowFiles = files_of (drill_told n) (codes "root.zone") root_records root_of_records top ∷ [] in
      gives_behind (with_row meta 1 root_row (no_rows limits) (drill_told n))
      (record { left = left_now; servers = root_server ∷ []; rows = done })
      (λ rows. with_rows meta 2 (map zone_row (zone_numbers n)) rows (drill_told n))
      (row_read (drill_told n) (codes "root.zone") root_records root_of_records top 1 [] [] tt limits root_is)
      (rows_read 0 n 2 (root_server ∷ []) done (omega arith) (λ j above below. refl, tt) left_now usual.octets room)

  -- the configuration
  configuration : GivesSome (conf_within limits meta (drill_told n))
  unfolding conf_unless
  configuration = (
    record { tops = top ∷ []; servers = all_rows.0.servers },
    goes_on (metadata limits meta (drill_told n)) (drill_meta n)
        (λ found. with_rows meta 1 found.rows (no_rows limits) (drill_told n) >>= (λ rows. Reads (record { tops = found.tops; servers = rows.servers })))
        metadata_read
        ∙ goes_on (with_rows meta 1 (root_row ∷ map zone_row (zone_numbers n)) (no_rows limits) (drill_told n)) all_rows.0
        (λ rows. Reads (record { tops = top ∷ []; servers = rows.servers }))
        all_rows.1,
  )

-- The files of a drill of 1 to 5,000 zones give a configuration within the usual limits, and within larger ones. Each file
-- that the reading asks for is held (Held), and is no longer than a file usually may be (Sizes). The metadata's text is the
-- compact text of a JSON value, which is read as that value (MetaValue.meta_value_of) and gives the drill's rows
-- (MetaRead.meta_given, metadata_read). The text of the root zone and of each other zone is made of rows, one record each
-- (DrillTexts.root_same, zone_same), of a form that is read as its record (DrillRows.root_rows_are, zone_rows_are,
-- Rows.text_of_rows), and the records keep the rules of zones (FitRoot.root_zone, FitZone.made_zone; root_is, zone_is). So
-- a row is read (row_read). The rows of the zones are read one after the other (rows_read): each has a server of its own,
-- since the names of two zones' servers differ (FitRoot.labels_apart), and the records of all are within what may be read
-- (all_rows).
pub drill_reads : (limits : Limits) → AreUsual limits → (zones : ℕ) → 1 ≤ zones → zones ≤ 5000
    → (config : Config) × (conf_within limits (codes "meta.json") (drill_told zones) ≡ Reads config)
drill_reads limits usual zones some few = configuration zones few limits usual
