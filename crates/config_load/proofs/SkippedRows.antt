-- Where all rows are read, so are they if some are skipped: the zones of these have no records then.
use Rattle.std.proofs.Common.{◌≡◌, ℕ, ◌+◌, ◌-◌, ◌≤◌, Bool, true, false, cond, List, [], ◌∷◌, ◌++◌, unwrap_or, Option, Some, None, Result, Ok, Err, if◌then◌else◌, refl, sym, ap, ◌∙◌, subst, inl, inr, arith}
use Rattle.std.specs.Prelude.{◌&&◌, ◌||◌}
use Rattle.std.specs.List.{AllZip, list_any}
use Rattle.std.specs.Option.{option_map_or}
use Rattle.dns_data.specs.Distinct.{distinct}
use Rattle.dns_data.specs.Identical.{is_identical}
use Rattle.dns_data.specs.Name.{Labels, name_eq}
use Rattle.dns_data.specs.declared.rdata.Rr.{Rr}
use Rattle.dns_data.specs.declared.rr_type.RrType.TheVariants as types
use Rattle.io_edges.specs.Files.{FilesTold}
use Rattle.meta_read.specs.declared.meta.Meta.{Meta as Metadata}
use Rattle.meta_read.specs.declared.meta.MetaRow.{MetaRow}
use Rattle.net_model.specs.Configured.{KeepsWithin}
use Rattle.net_model.specs.declared.config.Config.{Config}
use Rattle.net_model.specs.declared.config.Server.{Server}
use Rattle.net_model.specs.declared.config.Zone.{Zone}
use Rattle.zone_rules.specs.Apex.{is_wildcard}
use Rattle.zone_rules.specs.Rules.{had, first_fault}
use Rattle.zone_rules.specs.ZoneOf.{checked, unless_faulty, within, zone_of, zone_under}
use Rattle.zone_rules.specs.declared.fault.RuleFault.{RuleFault}
use Rattle.zone_rules.specs.declared.fault.RuleFault.TheVariants.{At}
use Rattle.zone_rules.specs.declared.fault.RuleCause.TheVariants.{NoSoa, StarOrigin}
use Rattle.zone_rules.proofs.ZonesWithin.{keeps_within}
use Rattle.config_load.specs.Conf.{conf_unless, conf_within, left_behind, metadata, no_row, no_rows, row_files, row_skips, with_row, with_row_unless, with_rows, with_rows_unless, zone_files, zone_read, zone_skipped, zone_unless}
use Rattle.config_load.specs.Faults.{of_rule}
use Rattle.config_load.specs.Reading.{Reading, Reads, ◌>>=◌, unless_refused}
use Rattle.config_load.specs.Servers.{given, has_zone, with_zone}
use Rattle.config_load.specs.Skipped.{GivesUnless, IsServerUnless, IsZoneUnless}
use Rattle.config_load.specs.declared.fault.LoadFault.{LoadFault}
use Rattle.config_load.specs.declared.fault.LoadFault.TheVariants.{ZoneTwice}
use Rattle.config_load.specs.declared.limits.Limits.{Limits}
use Rattle.config_load.specs.declared.rows.ReadRows.{ReadRows}
use Rattle.config_load.specs.declared.zone.ReadZone.{ReadZone}
use Rattle.config_load.specs.declared.zone_files.ZoneFiles.{ZoneFiles}
use Rattle.config_load.proofs.ReadAgain.{left_by, zone_again}
use Rattle.config_load.proofs.RowsRead.{read_on, row_given}

-- ---- the zone of a row that gives an origin

unless_origin : (origin : Labels) (rrs : List Rr) (zone : Zone) (fault : Option RuleFault) → unless_faulty fault origin rrs ≡ Ok zone → zone.origin ≡ origin
unless_origin origin rrs zone (Some fault) is = absurd cc
unless_origin origin rrs zone None is = by (had types.Soa rrs) is where
  answer : Bool → Result Zone RuleFault
  answer b = if b then Ok (record { origin = origin; rrs = rrs }) else Err (At 0 0 NoSoa)

  by : (b : Bool) → answer b ≡ Ok zone → zone.origin ≡ origin
  by true e = let same : record { origin = origin; rrs = rrs } ≡ zone = cc in ap (λ (z : Zone). z.origin) (sym same)
  by false e = absurd cc

under_origin : (origin : Labels) (rrs : List Rr) (zone : Zone) → zone_under rrs (record { name = origin; file = 0; line = 0 }) ≡ Ok zone → zone.origin ≡ origin
under_origin origin rrs zone is = by (is_wildcard origin) is where
  answer : Bool → Result Zone RuleFault
  answer b = if b then Err (At 0 0 StarOrigin) else checked origin (within origin rrs)

  by : (b : Bool) → answer b ≡ Ok zone → zone.origin ≡ origin
  by true e = absurd cc
  by false e = unless_origin origin (within origin rrs) zone (first_fault origin (within origin rrs)) e

-- the zone of records has the origin that is given
given_origin : (given : Option Labels) (origin : Labels) (rrs : List Rr) (zone : Zone) → given ≡ Some origin → zone_of given rrs ≡ Ok zone → zone.origin ≡ origin
given_origin given origin rrs zone is made =
    under_origin origin (distinct is_identical rrs) zone
    (subst (λ (one : Option Labels). zone_of one rrs ≡ Ok zone) is made)

-- what a zone that was read says of its row: its records lie at or below the origin, which is the one that the row gives if
-- it gives one, and no more is left than before
record IsOfRow (row : MetaRow) (left : Limits) (read : ReadZone) : Type 0 where
  within : KeepsWithin read.zone
  origin : (given : Labels) → row.origin ≡ Some given → read.zone.origin ≡ given
  octets : read.left.octets ≡ left.octets
  records : read.left.records ≤ left.records
  includes : read.left.includes ≤ left.includes

zone_is_of_row : (meta : List ℕ) (told : FilesTold) (row : MetaRow) (left : Limits) (read : ReadZone) → zone_read meta row left told ≡ Reads read → IsOfRow row left read
unfolding zone_read
zone_is_of_row meta told row left read is =
    let files = read_on (zone_files meta row left told) (λ (files : ZoneFiles). unless_refused (of_rule files.names) (zone_of row.origin files.text.rrs) >>= behind files) read is in
    by files.0 (zone_of row.origin files.0.text.rrs) refl files.2
  where
    behind : ZoneFiles → Zone → Reading ReadZone
    behind files zone = Reads (record { zone = zone; names = files.names; left = left_behind left files.text })

    by : (files : ZoneFiles) (made : Result Zone RuleFault) → zone_of row.origin files.text.rrs ≡ made → (unless_refused (of_rule files.names) made >>= behind files) ≡ Reads read → IsOfRow row left read
    by files (Err fault) of e = absurd cc
    by files (Ok zone) of e =
        let same : record { zone = zone; names = files.names; left = left_behind left files.text } ≡ read = cc in
        subst (IsOfRow row left) same (record {
          within = keeps_within row.origin files.text.rrs zone of;
          origin = λ given gives. given_origin row.origin given files.text.rrs zone gives of;
          octets = refl;
          records = omega arith;
          includes = omega arith;
        })

-- ---- servers with zones without records

module _ (skips : Labels → Bool) where
  -- a zone of the whole and the one that is read have one origin
  origin_same : (whole zone : Zone) → IsZoneUnless skips whole zone → zone.origin ≡ whole.origin
  origin_same whole zone (inl same) = ap (λ (z : Zone). z.origin) same
  origin_same whole zone (inr (skipped, keeps, is)) = ap (λ (z : Zone). z.origin) is

  origins_same : (origin : Labels) (whole zones : List Zone) → AllZip (IsZoneUnless skips) whole zones
      → list_any (λ (zone : Zone). name_eq origin zone.origin) zones ≡ list_any (λ (zone : Zone). name_eq origin zone.origin) whole
  origins_same origin [] [] are = refl
  origins_same origin (one ∷ whole) (zone ∷ zones) (first, rest) =
      λ i. name_eq origin (origin_same one zone first i) || origins_same origin whole zones rest i
  origins_same origin [] (zone ∷ zones) never = absurd never
  origins_same origin (one ∷ whole) [] never = absurd never

  -- so a server has a zone of an origin in both
  has_same : (name origin : Labels) (whole servers : List Server) → AllZip (IsServerUnless skips) whole servers → has_zone name origin servers ≡ has_zone name origin whole
  has_same name origin [] [] are = refl
  has_same name origin (one ∷ whole) (server ∷ servers) (first, rest) =
      λ i. (name_eq name (first.name i) && origins_same origin one.zones server.zones first.zones i) || has_same name origin whole servers rest i
  has_same name origin [] (server ∷ servers) never = absurd never
  has_same name origin (one ∷ whole) [] never = absurd never

  module _ (name : Labels) (whole' zone : Zone) (is : IsZoneUnless skips whole' zone) where
    -- one zone more behind the others
    zones_more : (whole zones : List Zone) → AllZip (IsZoneUnless skips) whole zones → AllZip (IsZoneUnless skips) (whole ++ whole' ∷ []) (zones ++ zone ∷ [])
    zones_more [] [] are = (is, tt)
    zones_more (one ∷ whole) (other ∷ zones) (first, rest) = (first, zones_more whole zones rest)
    zones_more [] (other ∷ zones) never = absurd never
    zones_more (one ∷ whole) [] never = absurd never

    -- and at its server
    with_zone_same : (whole servers : List Server) → AllZip (IsServerUnless skips) whole servers → AllZip (IsServerUnless skips) (with_zone name whole' whole) (with_zone name zone servers)
    with_zone_same [] [] are = (record { name = refl; zones = (is, tt) }, tt)
    with_zone_same [] (server ∷ servers) never = absurd never
    with_zone_same (one ∷ whole) [] never = absurd never
    with_zone_same (one ∷ whole) (server ∷ servers) (first, rest) =
        by (name_eq name one.name) (name_eq name server.name) (ap (name_eq name) (sym first.name)) (with_zone_same whole servers rest)
      where
        by : (here also : Bool) → here ≡ also
            → AllZip (IsServerUnless skips) (with_zone name whole' whole) (with_zone name zone servers)
            → AllZip (IsServerUnless skips)
            (if here then record one { zones = one.zones ++ whole' ∷ [] } ∷ whole else one ∷ with_zone name whole' whole)
            (if also then record server { zones = server.zones ++ zone ∷ [] } ∷ servers else server ∷ with_zone name zone servers)
        by true true e later = (record { name = first.name; zones = zones_more one.zones server.zones first.zones }, rest)
        by false false e later = (first, later)
        by true false e later = absurd cc
        by false true e later = absurd cc

-- ---- rows

-- the rows that are read are those of the whole, but for records of zones, and no less is left of the limits
record AreUnless (skips : Labels → Bool) (whole rows : ReadRows) : Type 0 where
  octets : rows.left.octets ≡ whole.left.octets
  records : whole.left.records ≤ rows.left.records
  includes : whole.left.includes ≤ rows.left.includes
  servers : AllZip (IsServerUnless skips) whole.servers rows.servers

-- the zone that is read of a row is that of the whole, unless it is skipped
record IsRead (skips : Labels → Bool) (meta : List ℕ) (told : FilesTold) (row : MetaRow) (whole : ReadZone) (left : Limits) : Type 0 where
  read : ReadZone
  reads : zone_unless (row_skips skips) meta row left told ≡ Reads read
  is : IsZoneUnless skips whole.zone read.zone
  octets : read.left.octets ≡ left.octets
  records : whole.left.records ≤ read.left.records
  includes : whole.left.includes ≤ read.left.includes

module _ (skips : Labels → Bool) (meta : List ℕ) (told : FilesTold) where
  zone_unless_read : (row : MetaRow) (left other : Limits) (whole : ReadZone) → zone_read meta row left told ≡ Reads whole
      → other.octets ≡ left.octets → left.records ≤ other.records → left.includes ≤ other.includes → IsRead skips meta told row whole other
  zone_unless_read row left other whole reads as_long records includes = by (row_skips skips row) refl where
    its : IsOfRow row left whole
    its = zone_is_of_row meta told row left whole reads

    few : whole.left.records ≤ left.records
    few = its.records

    fewer : whole.left.includes ≤ left.includes
    fewer = its.includes

    again : ReadZone
    again = record { zone = whole.zone; names = whole.names; left = left_by other (left.records - whole.left.records) (left.includes - whole.left.includes) }

    choice : Bool → Reading ReadZone
    choice skip = if skip then Reads (zone_skipped row other) else zone_read meta row other told

    skipped : (given : Option Labels) → row.origin ≡ given → option_map_or skips given false ≡ true
        → (skips whole.zone.origin ≡ true) × (unwrap_or row.origin [] ≡ whole.zone.origin)
    skipped None is e = absurd cc
    skipped (Some origin) is e =
        let here : whole.zone.origin ≡ origin = its.origin origin is in
        (ap skips here ∙ e, ap (λ (given : Option Labels). unwrap_or given []) is ∙ sym here)

    by : (skip : Bool) → row_skips skips row ≡ skip → IsRead skips meta told row whole other
    by true e =
        let (holds, origin_is) = skipped row.origin refl e in
        record {
          read = zone_skipped row other;
          reads = ap choice e;
          is = inr (holds, its.within, λ i. record { origin = origin_is i; rrs = [] });
          octets = refl;
          records = omega (arith, few, records);
          includes = omega (arith, fewer, includes);
        }
    by false e =
        record {
          read = again;
          reads = ap choice e
              ∙ zone_again meta row row left other told whole reads refl refl as_long (omega (arith, records)) (omega (arith, includes));
          is = inl refl;
          octets = refl;
          records = omega (arith, few, records);
          includes = omega (arith, fewer, includes);
        }

  -- a row whose zone its server doesn't have yet
  row_gives : (number : ℕ) (row : MetaRow) (rows : ReadRows) (read : ReadZone) → zone_unless (row_skips skips) meta row rows.left told ≡ Reads read → has_zone row.server read.zone.origin rows.servers ≡ false
      → with_row_unless (row_skips skips) meta number row rows told
      ≡ Reads (record { left = read.left; servers = with_zone row.server read.zone rows.servers; rows = rows.rows ++ row_files row.server read ∷ [] })
  unfolding with_row_unless
  row_gives number row rows read reads new =
      ap (λ (zone : Reading ReadZone). zone >>= λ read. unless_refused (λ (fault : LoadFault). fault) (given number row.server read.zone rows.servers) >>= behind read) reads
      ∙ ap (λ (b : Bool). let said : Result (List Server) LoadFault = cond b (Err (ZoneTwice number)) (Ok (with_zone row.server read.zone rows.servers)) in
      unless_refused (λ (fault : LoadFault). fault) said >>= behind read) new
    where
      behind : ReadZone → List Server → Reading ReadRows
      behind read servers = Reads (record { left = read.left; servers = servers; rows = rows.rows ++ row_files row.server read ∷ [] })

  -- what is read of rows
  record Read (reading : Reading ReadRows) (whole : ReadRows) : Type 0 where
    rows : ReadRows
    reads : reading ≡ Reads rows
    are : AreUnless skips whole rows

  row_read : (number : ℕ) (row : MetaRow) (whole rows after : ReadRows) → AreUnless skips whole rows → with_row meta number row whole told ≡ Reads after
      → Read (with_row_unless (row_skips skips) meta number row rows told) after
  row_read number row whole rows after are is =
      let one = row_given meta told no_row number row whole after is in
      let its = zone_unless_read row whole.left rows.left one.read one.reads are.octets are.records are.includes in
      let origin_is = origin_same skips one.read.zone its.read.zone its.is in
      let new : has_zone row.server its.read.zone.origin rows.servers ≡ false =
      ap (λ (origin : Labels). has_zone row.server origin rows.servers) origin_is ∙ has_same skips row.server one.read.zone.origin whole.servers rows.servers are.servers ∙ one.new in
      let of_whole = zone_is_of_row meta told row whole.left one.read one.reads in
      subst (Read (with_row_unless (row_skips skips) meta number row rows told)) one.made (record {
        rows = record { left = its.read.left; servers = with_zone row.server its.read.zone rows.servers; rows = rows.rows ++ row_files row.server its.read ∷ [] };
        reads = row_gives number row rows its.read its.reads new;
        are = record {
          octets = its.octets ∙ are.octets ∙ sym of_whole.octets;
          records = its.records;
          includes = its.includes;
          servers = with_zone_same skips row.server one.read.zone its.read.zone its.is whole.servers rows.servers are.servers;
        };
      })

  rows_read : (number : ℕ) (more : List MetaRow) (whole rows after : ReadRows) → AreUnless skips whole rows → with_rows meta number more whole told ≡ Reads after
      → Read (with_rows_unless (row_skips skips) meta number more rows told) after
  unfolding with_rows_unless
  rows_read number [] whole rows after are is =
      let same : whole ≡ after = cc in
      record { rows = rows; reads = refl; are = subst (λ (r : ReadRows). AreUnless skips r rows) same are }
  rows_read number (row ∷ more) whole rows after are is =
      let next = read_on (with_row meta number row whole told) (λ (next : ReadRows). with_rows meta (number + 1) more next told) after is in
      let one = row_read number row whole rows next.0 are next.1 in
      let rest = rows_read (number + 1) more next.0 one.rows after one.are next.2 in
      record {
        rows = rest.rows;
        reads = ap (λ (reading : Reading ReadRows). reading >>= (λ (next : ReadRows). with_rows_unless (row_skips skips) meta (number + 1) more next told)) one.reads ∙ rest.reads;
        are = rest.are;
      }

-- where the whole is read, so is a configuration of which rows are skipped
pub skipped_read : (skips : Labels → Bool) (limits : Limits) (meta : List ℕ) (told : FilesTold) (whole : Config) → conf_within limits meta told ≡ Reads whole
    → GivesUnless skips whole (conf_unless (row_skips skips) limits meta told)
unfolding conf_unless
skipped_read skips limits meta told whole is =
    let found = read_on (metadata limits meta told) (λ (found : Metadata). with_rows meta 1 found.rows (no_rows limits) told >>= behind found) whole is in
    let rows = read_on (with_rows meta 1 found.0.rows (no_rows limits) told) (behind found.0) whole found.2 in
    let none : AreUnless skips (no_rows limits) (no_rows limits) = record { octets = refl; records = omega arith; includes = omega arith; servers = tt } in
    let read = rows_read skips meta told 1 found.0.rows (no_rows limits) (no_rows limits) rows.0 none rows.1 in
    let last : record { tops = found.0.tops; servers = rows.0.servers } ≡ whole = cc (rows.2) in
    record {
      config = record { tops = found.0.tops; servers = read.rows.servers };
      reads = ap (λ (reading : Reading Metadata). reading >>= (λ (found : Metadata). with_rows_unless (row_skips skips) meta 1 found.rows (no_rows limits) told >>= behind found)) found.1
          ∙ ap (λ (reading : Reading ReadRows). reading >>= behind found.0) read.reads;
      is = record {
        tops = ap (λ (c : Config). c.tops) last;
        servers = subst (λ (c : Config). AllZip (IsServerUnless skips) c.servers read.rows.servers) last read.are.servers;
      };
    }
  where
    behind : Metadata → ReadRows → Reading Config
    behind found rows = Reads (record { tops = found.tops; servers = rows.servers })
