-- Rows and zones, as rows are read one by one.
use Rattle.std.proofs.Common.{◌≡◌, ℕ, ◌+◌, Bool, true, false, cond, List, [], ◌∷◌, ◌++◌, Some, None, Ok, Err, if◌then◌else◌, refl, sym, ap, ◌∙◌, subst, inl, inr, arith}
use Rattle.std.proofs.lemmas.List.Elements.{Contains-append_cases, Contains-append_left, Contains-append_right}
use Rattle.dns_data.specs.Name.{Labels}
use Rattle.dns_data.proofs.Membership.{first_or_later, has_first, none_in_nil, pairs_more}
use Rattle.io_edges.specs.Files.{FilesTold}
use Rattle.meta_read.specs.declared.meta.Meta.{Meta as Metadata}
use Rattle.meta_read.specs.declared.meta.MetaRow.{MetaRow}
use Rattle.net_model.specs.declared.config.Server.{Server}
use Rattle.net_model.specs.declared.config.Zone.{Zone}
use Rattle.config_load.specs.Conf.{left_behind, loaded_unless, loaded_within, metadata, no_row, no_rows, row_files, with_row, with_row_unless, with_rows, with_rows_unless, zone_files, zone_read, zone_skipped, zone_unless}
use Rattle.config_load.specs.Faults.{of_rule}
use Rattle.config_load.specs.Hosted.{held_in}
use Rattle.config_load.specs.Reading.{Reading, Reads, Refuses, Misses, Unknown, ◌>>=◌, unless_refused}
use Rattle.config_load.specs.Servers.{given, has_zone, with_zone}
use Rattle.config_load.specs.declared.fault.LoadFault.{LoadFault}
use Rattle.config_load.specs.declared.fault.LoadFault.TheVariants.{ZoneTwice}
use Rattle.config_load.specs.declared.limits.Limits.{Limits}
use Rattle.config_load.specs.declared.loaded.Loaded.{Loaded}
use Rattle.config_load.specs.declared.loaded.RowFiles.{RowFiles}
use Rattle.config_load.specs.declared.rows.ReadRows.{ReadRows}
use Rattle.config_load.specs.declared.zone.ReadZone.{ReadZone}
use Rattle.config_load.specs.declared.zone_files.ZoneFiles.{ZoneFiles}
use Rattle.zone_rules.specs.ZoneOf.{zone_of}
use Rattle.config_load.specs.RowZones.{HoldsRow, RowsHaveZones}
use Rattle.config_load.proofs.ZonesGiven.{from_more, held_new, held_stays, none_held}

-- what was read is what the next step goes on with
pub read_on : {A B : Type 0} (reading : Reading A) (next : A → Reading B) (value : B) → (reading >>= next) ≡ Reads value
    → (one : A) × (reading ≡ Reads one) × (next one ≡ Reads value)
read_on (Reads one) next value is = (one, refl, is)
read_on (Refuses fault) next value is = absurd cc
read_on (Misses file) next value is = absurd cc
read_on (Unknown file) next value is = absurd cc

-- how the reading of a zone goes on behind its files, and behind its rules
abbrev behind_rules : Limits → ZoneFiles → Zone → Reading ReadZone
behind_rules left files zone = Reads (record { zone = zone; names = files.names; left = left_behind left files.text })

abbrev behind_files : MetaRow → Limits → ZoneFiles → Reading ReadZone
behind_files row left files = unless_refused (of_rule files.names) (zone_of row.origin files.text.rrs) >>= behind_rules left files

-- how the reading goes on behind the zone of a row, and behind the servers that have it
abbrev behind_servers : MetaRow → ReadRows → ReadZone → List Server → Reading ReadRows
behind_servers row rows read servers = Reads (record { left = read.left; servers = servers; rows = rows.rows ++ row_files row.server read ∷ [] })

abbrev behind_zone : ℕ → MetaRow → ReadRows → ReadZone → Reading ReadRows
behind_zone number row rows read =
    unless_refused (λ (fault : LoadFault). fault) (given number row.server read.zone rows.servers) >>= behind_servers row rows read

-- and behind the metadata and the rows
abbrev behind_rows : Metadata → ReadRows → Reading Loaded
behind_rows found rows = Reads (record { config = record { tops = found.tops; servers = rows.servers }; rows = rows.rows })

-- a row that was read: its zone, which its server didn't have, and the rows with it
pub record GivenRow (skips : MetaRow → Bool) (meta : List ℕ) (told : FilesTold) (row : MetaRow) (rows after : ReadRows) : Type 0 where
  pub read : ReadZone
  pub reads : zone_unless skips meta row rows.left told ≡ Reads read
  pub new : has_zone row.server read.zone.origin rows.servers ≡ false
  pub made : record { left = read.left; servers = with_zone row.server read.zone rows.servers; rows = rows.rows ++ row_files row.server read ∷ [] } ≡ after

module _ (meta : List ℕ) (told : FilesTold) where
  -- what is left when a zone was read allows files as long as before
  pub left_as_long : (row : MetaRow) (left : Limits) (read : ReadZone) → zone_read meta row left told ≡ Reads read → read.left.octets ≡ left.octets
  unfolding zone_read
  left_as_long row left read is =
      let files = read_on (zone_files meta row left told) (behind_files row left) read is in
      let zone = read_on (unless_refused (of_rule files.0.names) (zone_of row.origin files.0.text.rrs)) (behind_rules left files.0) read files.2 in
      let last : record { zone = zone.0; names = files.0.names; left = left_behind left files.0.text } ≡ read = cc in
      ap (λ (r : ReadZone). r.left.octets) (sym last)

  -- so does it where the row may be skipped
  pub unless_as_long : (skips : MetaRow → Bool) (row : MetaRow) (left : Limits) (read : ReadZone) → zone_unless skips meta row left told ≡ Reads read → read.left.octets ≡ left.octets
  unless_as_long skips row left read = by (skips row) where
    by : (skip : Bool) → (if skip then Reads (zone_skipped row left) else zone_read meta row left told) ≡ Reads read → read.left.octets ≡ left.octets
    by true is = let same : zone_skipped row left ≡ read = cc in ap (λ (r : ReadZone). r.left.octets) (sym same)
    by false is = left_as_long row left read is

  -- the zone of a row that was read was given to its server
  pub row_given : (skips : MetaRow → Bool) (number : ℕ) (row : MetaRow) (rows after : ReadRows) → with_row_unless skips meta number row rows told ≡ Reads after → GivenRow skips meta told row rows after
  unfolding with_row_unless
  row_given skips number row rows after is =
      let zone = read_on (zone_unless skips meta row rows.left told) (behind_zone number row rows) after is in
      let servers = read_on (unless_refused (λ fault. fault) (given number row.server zone.0.zone rows.servers)) (behind_servers row rows zone.0) after zone.2 in
      by zone.0 zone.1 servers.0 (has_zone row.server zone.0.zone.origin rows.servers) refl servers.1 servers.2
    where
      by : (read : ReadZone) → zone_unless skips meta row rows.left told ≡ Reads read → (servers : List Server) → (b : Bool) → has_zone row.server read.zone.origin rows.servers ≡ b
          → unless_refused (λ fault. fault) (cond b (Err (ZoneTwice number)) (Ok (with_zone row.server read.zone rows.servers))) ≡ Reads servers
          → Reads (record { left = read.left; servers = servers; rows = rows.rows ++ row_files row.server read ∷ [] }) ≡ Reads after → GivenRow skips meta told row rows after
      by read reads servers true had got made = absurd cc
      by read reads servers false new got made =
          let are : with_zone row.server read.zone rows.servers ≡ servers = cc in
          let last : record { left = read.left; servers = servers; rows = rows.rows ++ row_files row.server read ∷ [] } ≡ after = cc in
          record { read = read; reads = reads; new = new; made = subst (λ (all : List Server). record { left = read.left; servers = all; rows = rows.rows ++ row_files row.server read ∷ [] } ≡ after) (sym are) last }

module _ (limits : Limits) (meta : List ℕ) (told : FilesTold) where
  -- so far rows and zones stand so
  abbrev Stand : List Labels → ReadRows → Type 0
  Stand tops read = RowsHaveZones limits meta told (record { config = record { tops = tops; servers = read.servers }; rows = read.rows })

  module _ (tops : List Labels) (rows : ReadRows) (as_long : rows.left.octets ≡ limits.octets) (stand : Stand tops rows) (row : MetaRow) (read : ReadZone)
      (reads : zone_read meta row rows.left told ≡ Reads read) (new : has_zone row.server read.zone.origin rows.servers ≡ false) where
    abbrev servers' : List Server
    servers' = with_zone row.server read.zone rows.servers

    abbrev more : RowFiles
    more = row_files row.server read

    one_more : Stand tops (record { left = read.left; servers = servers'; rows = rows.rows ++ more ∷ [] })
    one_more =
        record {
          rows = λ other has.
              elim (Contains-append_cases rows.rows (more ∷ []) other has) [
                | inl before ↦
                    let old = stand.rows other before in
                    record { given = old.given; left = old.left; as_long = old.as_long; read = old.read; reads = old.reads; is = old.is; held = held_stays row.server read.zone rows.servers new other.server other.origin old.read.zone old.held }
                | inr last ↦
                    elim (first_or_later more [] other last) [
                      | inl same ↦ subst (HoldsRow limits meta told (record { tops = tops; servers = servers' })) same (record { given = row; left = rows.left; as_long = as_long; read = read; reads = reads; is = refl; held = held_new row.server read.zone rows.servers new })
                      | inr never ↦ absurd (none_in_nil other never)
                    ]
              ];
          found = λ server zone has among.
              elim (from_more row.server read.zone rows.servers server zone has among) [
                | inl new_one ↦
                    subst (λ (z : Zone). held_in servers' server.name z.origin ≡ Some z) (sym new_one.1)
                    (subst (λ (n : Labels). held_in servers' n read.zone.origin ≡ Some read.zone) (sym new_one.0) (held_new row.server read.zone rows.servers new))
                | inr old ↦
                    subst (λ (n : Labels). held_in servers' n zone.origin ≡ Some zone) old.2
                    (held_stays row.server read.zone rows.servers new old.0.name zone.origin zone (stand.found old.0 zone old.1 old.3))
              ];
          zones = λ server zone has among.
              elim (from_more row.server read.zone rows.servers server zone has among) [
                | inl new_one ↦ (
                  more,
                  Contains-append_right rows.rows (more ∷ []) more (has_first more []),
                  record { server_is = sym new_one.0; origin_is = ap (λ (z : Zone). z.origin) (sym new_one.1) },
                )
                | inr old ↦ (
                    let found = stand.zones old.0 zone old.1 old.3 in (
                      found.0,
                      Contains-append_left rows.rows (more ∷ []) found.0 found.1,
                      record { server_is = found.2.server_is ∙ old.2; origin_is = found.2.origin_is },
                    ))
              ];
          once = pairs_more (λ (a b : RowFiles). a.server ≡ b.server → a.origin ≡ b.origin → ⊥) rows.rows more stand.once
              (λ other before named at.
              let held = (stand.rows other before).held in
              let here : None ≡ Some (stand.rows other before).read.zone = sym (none_held rows.servers row.server read.zone.origin new) ∙ sym (λ i. held_in rows.servers (named i) (at i)) ∙ held in
              absurd cc);
        }

  -- the rows so far stand so, and what they left allows files as long as at first
  abbrev StandOn : List Labels → ReadRows → Type 0
  StandOn tops rows = (rows.left.octets ≡ limits.octets) × Stand tops rows

  -- one row more
  row_stands : (tops : List Labels) (number : ℕ) (row : MetaRow) (rows after : ReadRows) → StandOn tops rows → with_row meta number row rows told ≡ Reads after → StandOn tops after
  row_stands tops number row rows after stand is =
      let one = row_given meta told no_row number row rows after is in
      subst (StandOn tops) one.made (
        left_as_long meta told row rows.left one.read one.reads ∙ stand.0,
        one_more tops rows stand.0 stand.1 row one.read one.reads one.new,
      )

  -- and the rows behind them
  rows_stand : (tops : List Labels) (number : ℕ) (more : List MetaRow) (rows after : ReadRows) → StandOn tops rows → with_rows meta number more rows told ≡ Reads after → StandOn tops after
  unfolding with_rows_unless
  rows_stand tops number [] rows after stand is = let same : rows ≡ after = cc in subst (StandOn tops) same stand
  rows_stand tops number (row ∷ more) rows after stand is =
      let next = read_on (with_row meta number row rows told) (λ next. with_rows meta (number + 1) more next told) after is in
      rows_stand tops (number + 1) more next.0 after (row_stands tops number row rows next.0 stand next.1) next.2

  -- no row and no zone
  none_stand : (tops : List Labels) → StandOn tops (no_rows limits)
  none_stand tops = (
    refl,
    record {
      rows = λ row has. absurd (none_in_nil row has);
      found = λ server zone has among. absurd (none_in_nil server has);
      zones = λ server zone has among. absurd (none_in_nil server has);
      once = λ i j d before within. absurd (omega arith);
    },
  )

  -- in all that the files give, each row has its zone, and each zone its row
  pub rows_read : (all : Loaded) → loaded_within limits meta told ≡ Reads all → RowsHaveZones limits meta told all
  unfolding loaded_unless
  rows_read all is =
      let found = read_on (metadata limits meta told) (λ found. with_rows meta 1 found.rows (no_rows limits) told >>= behind_rows found) all is in
      let rows = read_on (with_rows meta 1 found.0.rows (no_rows limits) told) (behind_rows found.0) all found.2 in
      let last : record { config = record { tops = found.0.tops; servers = rows.0.servers }; rows = rows.0.rows } ≡ all = cc in
      subst (RowsHaveZones limits meta told) last (rows_stand found.0.tops 1 found.0.rows (no_rows limits) rows.0 (none_stand found.0.tops) rows.1).1
