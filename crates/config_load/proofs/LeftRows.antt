-- Rows whose zones are taken: what is left of servers and their zones, as rows are read one by one.
use Rattle.std.proofs.Common.{◌≡◌, ℕ, ◌+◌, Bool, true, false, cond, List, [], ◌∷◌, ◌++◌, map, length, drop, Contains, Some, Result, Ok, Err, IsErrAnd, refl, sym, ap, ◌∙◌, subst, inl, inr}
use Rattle.std.specs.Prelude.{◌⊎◌, ◌&&◌, ◌||◌, option_and_then}
use Rattle.std.specs.List.{find, list_any}
use Rattle.std.specs.Option.{option_map}
use Rattle.std.proofs.lemmas.List.Elements.{Contains-append_cases, Contains-append_left, Contains-append_right}
use Rattle.dns_data.specs.Answers.{AnswersOr}
use Rattle.dns_data.specs.Name.{Labels, name_eq}
use Rattle.dns_data.proofs.Membership.{first_or_later, flat_map_has, from_flat_map, has_first, none_in_nil}
use Rattle.io_edges.specs.Files.{FilesTold}
use Rattle.meta_read.specs.declared.meta.MetaRow.{MetaRow}
use Rattle.net_model.specs.Nearest.{zone_with_origin}
use Rattle.net_model.specs.declared.config.Server.{Server}
use Rattle.net_model.specs.declared.config.Zone.{Zone}
use Rattle.config_load.specs.Conf.{no_rows, with_row_unless, with_rows_unless, zone_unless}
use Rattle.config_load.specs.Earlier.{AreEarlier}
use Rattle.config_load.specs.Follows.{ByTold, Follows}
use Rattle.config_load.specs.Hosted.{held_in}
use Rattle.config_load.specs.Left.{HasLeft, IsLeft, read_left, rows_left, zones_in}
use Rattle.config_load.specs.RowRead.{if_given, row_read, with_servers}
use Rattle.config_load.specs.Servers.{given, has_zone, with_zone}
use Rattle.config_load.specs.Sources.{HasAnswered, ReadsFor}
use Rattle.config_load.specs.Taken.{AreTaken, server_left}
use Rattle.config_load.specs.declared.earlier.EarlierRows.{EarlierRows}
use Rattle.config_load.specs.declared.fault.LoadFault.{LoadFault}
use Rattle.config_load.specs.declared.fault.LoadFault.TheVariants.{NoMemory, ZoneTwice}
use Rattle.config_load.specs.declared.limits.Limits.{Limits}
use Rattle.config_load.specs.declared.rows.ReadRows.{ReadRows}
use Rattle.config_load.specs.declared.zone.ReadZone.{ReadZone}
use Rattle.config_load.proofs.ReadRows.{HasAnswered-read}
use Rattle.config_load.proofs.Sources.{HasAnswered-wanting}
use Rattle.config_load.proofs.ZonesGiven.{from_more}

-- ---- zones that were taken

module _ (took : List Zone → Type 0) (all : List Zone) (zone : Zone) where
  -- a zone that was taken is taken still
  pub taken_again : AreTaken took all → Contains all zone → AreTaken took (all ++ zone ∷ [])
  taken_again are has = record {
    taken = are.taken;
    took_them = are.took_them;
    each = λ other there. elim (Contains-append_cases all (zone ∷ []) other there) [
      | inl before ↦ are.each other before
      | inr last ↦ elim (first_or_later zone [] other last) [
        | inl same ↦ are.each other (subst (Contains all) same has)
        | inr none ↦ absurd (none_in_nil other none)
      ]
    ];
    only = λ other there. Contains-append_left all (zone ∷ []) other (are.only other there);
  }

  -- one more is taken
  pub taken_more : (took' : List Zone → Type 0) → AreTaken took all → ((zones : List Zone) → took zones → took' (zones ++ zone ∷ [])) → AreTaken took' (all ++ zone ∷ [])
  taken_more took' are more = record {
    taken = are.taken ++ zone ∷ [];
    took_them = more are.taken are.took_them;
    each = λ other there. elim (Contains-append_cases all (zone ∷ []) other there) [
      | inl before ↦ Contains-append_left are.taken (zone ∷ []) other (are.each other before)
      | inr last ↦ Contains-append_right are.taken (zone ∷ []) other last
    ];
    only = λ other there. elim (Contains-append_cases are.taken (zone ∷ []) other there) [
      | inl before ↦ Contains-append_left all (zone ∷ []) other (are.only other before)
      | inr last ↦ Contains-append_right all (zone ∷ []) other last
    ];
  }

-- of no zone none was taken
pub none_taken : (took : List Zone → Type 0) → took [] → AreTaken took []
none_taken took none = record { taken = []; took_them = none; each = λ zone has. has; only = λ zone has. has }

-- zones were taken where those are that were
pub taken_as : (took : List Zone → Type 0) (all others : List Zone) → AreTaken took all → ((zone : Zone) → Contains others zone → Contains all zone)
    → ((zone : Zone) → Contains all zone → Contains others zone) → AreTaken took others
taken_as took all others are from to = record {
  taken = are.taken;
  took_them = are.took_them;
  each = λ zone has. are.each zone (from zone has);
  only = λ zone has. to zone (are.only zone has);
}

module _ (name : Labels) (zone : Zone) where
  -- the zones of servers with one more
  zone_there : (servers : List Server) → Contains (zones_in (with_zone name zone servers)) zone
  zone_there [] = has_first zone []
  zone_there (server ∷ servers) = by (name_eq name server.name) (zone_there servers) where
    by : (b : Bool) → Contains (zones_in (with_zone name zone servers)) zone → Contains (zones_in (cond b (record server { zones = server.zones ++ zone ∷ [] } ∷ servers) (server ∷ with_zone name zone servers))) zone
    by true later =
        Contains-append_left (server.zones ++ zone ∷ []) (zones_in servers) zone (Contains-append_right server.zones (zone ∷ []) zone (has_first zone []))
    by false later = Contains-append_right server.zones (zones_in (with_zone name zone servers)) zone later

  -- and those that they had
  still_there : (servers : List Server) (other : Zone) → Contains (zones_in servers) other → Contains (zones_in (with_zone name zone servers)) other
  still_there [] other has = absurd (none_in_nil other has)
  still_there (server ∷ servers) other has = by (name_eq name server.name) (Contains-append_cases server.zones (zones_in servers) other has) (still_there servers other) where
    by : (b : Bool) → Contains server.zones other ⊎ Contains (zones_in servers) other → (Contains (zones_in servers) other → Contains (zones_in (with_zone name zone servers)) other)
        → Contains (zones_in (cond b (record server { zones = server.zones ++ zone ∷ [] } ∷ servers) (server ∷ with_zone name zone servers))) other
    by true (inl here) rest =
        Contains-append_left (server.zones ++ zone ∷ []) (zones_in servers) other (Contains-append_left server.zones (zone ∷ []) other here)
    by true (inr later) rest = Contains-append_right (server.zones ++ zone ∷ []) (zones_in servers) other later
    by false (inl here) rest = Contains-append_left server.zones (zones_in (with_zone name zone servers)) other here
    by false (inr later) rest = Contains-append_right server.zones (zones_in (with_zone name zone servers)) other (rest later)

  -- they have no other
  no_other : (servers : List Server) (other : Zone) → Contains (zones_in (with_zone name zone servers)) other → Contains (zones_in servers ++ zone ∷ []) other
  no_other servers other has =
      let (server, of_all, among) = from_flat_map (λ (s : Server). s.zones) (with_zone name zone servers) other has in
      elim (from_more name zone servers server other of_all among) [
        | inl new ↦ Contains-append_right (zones_in servers) (zone ∷ []) other (subst (Contains (zone ∷ [])) (sym new.1) (has_first zone []))
        | inr old ↦ Contains-append_left (zones_in servers) (zone ∷ []) other (flat_map_has (λ (s : Server). s.zones) servers old.0 other old.1 old.3)
      ]

  -- with one zone more, which was taken, the zones of the servers were taken
  pub taken_with : (took : List Zone → Type 0) (servers : List Server) → AreTaken took (zones_in servers ++ zone ∷ []) → AreTaken took (zones_in (with_zone name zone servers))
  taken_with took servers are =
      taken_as took (zones_in servers ++ zone ∷ []) (zones_in (with_zone name zone servers)) are (no_other servers)
      (λ other has. elim (Contains-append_cases (zones_in servers) (zone ∷ []) other has) [
        | inl before ↦ still_there servers other before
        | inr last ↦ elim (first_or_later zone [] other last) [
          | inl same ↦ subst (Contains (zones_in (with_zone name zone servers))) same (zone_there servers)
          | inr none ↦ absurd (none_in_nil other none)
        ]
      ])

-- ---- what is left of servers

module _ (left : Zone → Zone) (origin_is : (zone : Zone) → (left zone).origin ≡ zone.origin) where
  has_left_zone : (origin : Labels) (zones : List Zone) → list_any (λ (zone : Zone). name_eq origin zone.origin) (map left zones) ≡ list_any (λ (zone : Zone). name_eq origin zone.origin) zones
  has_left_zone origin [] = refl
  has_left_zone origin (zone ∷ zones) = λ i. name_eq origin (origin_is zone i) || has_left_zone origin zones i

  -- servers of which zones are left have zones of the same origins
  pub has_zone_left : (name origin : Labels) (servers : List Server) → has_zone name origin (map (server_left left) servers) ≡ has_zone name origin servers
  has_zone_left name origin [] = refl
  has_zone_left name origin (server ∷ servers) = λ i. (name_eq name server.name && has_left_zone origin server.zones i) || has_zone_left name origin servers i

  left_behind_others : (zones : List Zone) (zone : Zone) → map left zones ++ left zone ∷ [] ≡ map left (zones ++ zone ∷ [])
  left_behind_others [] zone = refl
  left_behind_others (first ∷ zones) zone = ap (λ (all : List Zone). left first ∷ all) (left_behind_others zones zone)

  -- what is left of a zone goes where the zone goes
  pub with_zone_left : (name : Labels) (zone : Zone) (servers : List Server) → with_zone name (left zone) (map (server_left left) servers) ≡ map (server_left left) (with_zone name zone servers)
  with_zone_left name zone [] = refl
  with_zone_left name zone (server ∷ servers) = by (name_eq name server.name) (with_zone_left name zone servers) where
    by : (b : Bool) → with_zone name (left zone) (map (server_left left) servers) ≡ map (server_left left) (with_zone name zone servers)
        → cond b (record { name = server.name; zones = map left server.zones ++ left zone ∷ [] } ∷ map (server_left left) servers) (server_left left server ∷ with_zone name (left zone) (map (server_left left) servers))
        ≡ map (server_left left) (cond b (record server { zones = server.zones ++ zone ∷ [] } ∷ servers) (server ∷ with_zone name zone servers))
    by true later = λ i. record { name = server.name; zones = left_behind_others server.zones zone i } ∷ map (server_left left) servers
    by false later = ap (λ (all : List Server). server_left left server ∷ all) later

  found_left : (origin : Labels) (zones : List Zone) → find (λ (zone : Zone). name_eq zone.origin origin) (map left zones) ≡ option_map left (find (λ (zone : Zone). name_eq zone.origin origin) zones)
  found_left origin [] = refl
  found_left origin (zone ∷ zones) =
      ap (λ (o : Labels). cond (name_eq o origin) (Some (left zone)) (find (λ (zone : Zone). name_eq zone.origin origin) (map left zones))) (origin_is zone)
      ∙ by (name_eq zone.origin origin) (found_left origin zones)
    where
      by : (b : Bool) → find (λ (zone : Zone). name_eq zone.origin origin) (map left zones) ≡ option_map left (find (λ (zone : Zone). name_eq zone.origin origin) zones)
          → cond b (Some (left zone)) (find (λ (zone : Zone). name_eq zone.origin origin) (map left zones))
          ≡ option_map left (cond b (Some zone) (find (λ (zone : Zone). name_eq zone.origin origin) zones))
      by true later = refl
      by false later = later

  -- the zone that a server holds behind the taking is what is left of the one that it would hold
  pub held_left : (servers : List Server) (name origin : Labels) → held_in (map (server_left left) servers) name origin ≡ option_map left (held_in servers name origin)
  held_left [] name origin = refl
  held_left (server ∷ servers) name origin = by (name_eq server.name name) (held_left servers name origin) where
    by : (b : Bool) → held_in (map (server_left left) servers) name origin ≡ option_map left (held_in servers name origin)
        → option_and_then (λ (holder : Server). zone_with_origin holder origin) (cond b (Some (server_left left server)) (find (λ (s : Server). name_eq s.name name) (map (server_left left) servers)))
        ≡ option_map left (option_and_then (λ (holder : Server). zone_with_origin holder origin) (cond b (Some server) (find (λ (s : Server). name_eq s.name name) servers)))
    by true later = found_left origin server.zones
    by false later = later

  -- the rows with one more, of whose zone this is left, are what is left of the rows with one more
  with_one_left : (server : Labels) (read : ReadZone) (rows : ReadRows)
      → with_servers server (read_left left read) (rows_left left rows) (with_zone server (left read.zone) (map (server_left left) rows.servers))
      ≡ rows_left left (with_servers server read rows (with_zone server read.zone rows.servers))
  with_one_left server read rows = λ i. record {
    left = read.left;
    servers = with_zone_left server read.zone rows.servers i;
    rows = rows.rows ++ record { server = server; origin = origin_is read.zone i; files = read.names } ∷ [];
  }

  module _ (number : ℕ) (server : Labels) (read : ReadZone) (rows : ReadRows) (took : List Zone → Type 0) (taken : AreTaken took (zones_in rows.servers ++ read.zone ∷ [])) where
    -- what is answered to a row whose zone was read, and what is left of that
    pub record RowAnswer (result : Result ReadRows LoadFault) : Type 0 where
      pub whole : Result ReadRows LoadFault
      pub answers : AnswersOr NoMemory whole (row_read number server read rows)
      pub is : IsLeft (rows_left left) (λ (all : ReadRows). AreTaken took (zones_in all.servers)) whole result

    pub row_answer : (result : Result ReadRows LoadFault) → AnswersOr NoMemory result (row_read number server (read_left left read) (rows_left left rows)) → RowAnswer result
    row_answer result answers =
        by (has_zone server read.zone.origin rows.servers) refl result
        (subst (λ (said : Result (List Server) LoadFault). AnswersOr NoMemory result (if_given server (read_left left read) (rows_left left rows) said)) given_is answers)
      where
        servers' : List Server
        servers' = with_zone server (left read.zone) (map (server_left left) rows.servers)

        whole' : ReadRows
        whole' = with_servers server read rows (with_zone server read.zone rows.servers)

        given_is : given number server (left read.zone) (map (server_left left) rows.servers)
            ≡ cond (has_zone server read.zone.origin rows.servers) (Err (ZoneTwice number)) (Ok servers')
        given_is =
            ap (λ (o : Labels). cond (has_zone server o (map (server_left left) rows.servers)) (Err (ZoneTwice number)) (Ok servers')) (origin_is read.zone)
            ∙ ap (λ (b : Bool). cond b (Err (ZoneTwice number)) (Ok servers')) (has_zone_left server read.zone.origin rows.servers)

        by : (b : Bool) → has_zone server read.zone.origin rows.servers ≡ b → (result : Result ReadRows LoadFault)
            → AnswersOr NoMemory result (if_given server (read_left left read) (rows_left left rows) (cond (has_zone server read.zone.origin rows.servers) (Err (ZoneTwice number)) (Ok servers')))
            → RowAnswer result
        by true e result said = had result (subst (λ (b : Bool). AnswersOr NoMemory result (if_given server (read_left left read) (rows_left left rows) (cond b (Err (ZoneTwice number)) (Ok servers')))) e said) where
          is_twice : row_read number server read rows ≡ Err (ZoneTwice number)
          is_twice = ap (λ (b : Bool). if_given server read rows (cond b (Err (ZoneTwice number)) (Ok (with_zone server read.zone rows.servers)))) e

          had : (result : Result ReadRows LoadFault) → AnswersOr NoMemory result (Err (ZoneTwice number)) → RowAnswer result
          had (Ok kept) told = absurd cc
          had (Err fault) (inl free) = record { whole = Err fault; answers = inl free; is = refl }
          had (Err fault) (inr same) = record { whole = Err fault; answers = inr (is_twice ∙ same); is = refl }
        by false e result said = new result (subst (λ (b : Bool). AnswersOr NoMemory result (if_given server (read_left left read) (rows_left left rows) (cond b (Err (ZoneTwice number)) (Ok servers')))) e said) where
          is_new : row_read number server read rows ≡ Ok whole'
          is_new = ap (λ (b : Bool). if_given server read rows (cond b (Err (ZoneTwice number)) (Ok (with_zone server read.zone rows.servers)))) e

          new : (result : Result ReadRows LoadFault) → AnswersOr NoMemory result (Ok (with_servers server (read_left left read) (rows_left left rows) servers')) → RowAnswer result
          new (Ok kept) told =
              let same : with_servers server (read_left left read) (rows_left left rows) servers' ≡ kept = cc in
              record { whole = Ok whole'; answers = is_new; is = (whole', refl, sym same ∙ with_one_left server read rows, taken_with server read.zone took rows.servers taken) }
          new (Err fault) (inl free) = record { whole = Err fault; answers = inl free; is = refl }
          new (Err fault) (inr same) = absurd cc

-- ---- answers

module _ {A : Type 0} {told told' : FilesTold} {counts counts' : List ℕ → ℕ} {reading : ByTold A} {left : A → A} {Taken : A → Type 0} where
  -- a fault that was told and is passed on is answered
  pub left_passed : (fault : LoadFault) (result : Result A LoadFault) → IsErrAnd result (λ passed. passed ≡ fault) → (let answer : Result A LoadFault = Err fault in HasAnswered told told' counts counts' reading answer)
      → HasLeft told told' counts counts' reading left Taken result
  left_passed fault (Ok value) is answered = absurd is
  left_passed fault (Err passed) is answered = record { whole = Err fault; answered = answered; is = ap (λ (f : LoadFault). Err f) (sym is) }

  -- a fault that answers is answered
  pub left_fault : (result : Result A LoadFault) (fault : LoadFault) → IsErrAnd result (λ passed. passed ≡ fault) → HasAnswered told told' counts counts' reading result
      → HasLeft told told' counts counts' reading left Taken result
  left_fault (Ok value) fault is answered = absurd is
  left_fault (Err passed) fault is answered = record { whole = Err passed; answered = answered; is = refl }

  -- so is `NoMemory`
  pub left_wanting : (result : Result A LoadFault) → ReadsFor told told' counts counts' reading → IsErrAnd result (λ fault. fault ≡ NoMemory) → HasLeft told told' counts counts' reading left Taken result
  left_wanting result source wants = left_fault result NoMemory wants (HasAnswered-wanting result source wants)

  -- what answers where a fault was told
  pub of_fault : (fault : LoadFault) → (let answer : Result A LoadFault = Err fault in HasLeft told told' counts counts' reading left Taken answer)
      → (let answer : Result A LoadFault = Err fault in HasAnswered told told' counts counts' reading answer)
  of_fault fault has = subst (HasAnswered told told' counts counts' reading) has.is has.answered

  -- and where a value was told
  pub of_value : (kept : A) → (let answer : Result A LoadFault = Ok kept in HasLeft told told' counts counts' reading left Taken answer)
      → (value : A) × (let answer : Result A LoadFault = Ok value in HasAnswered told told' counts counts' reading answer) × (kept ≡ left value) × Taken value
  of_value kept has =
      let (value, is, kept_is, taken) = has.is in
      (value, subst (HasAnswered told told' counts counts' reading) is has.answered, kept_is, taken)

-- ---- the rows so far

-- the rows so far were read, and the others follow; those that are known are among them; this is left of them, and their
-- zones were taken
pub record StandSoFar (skips : MetaRow → Bool) (meta : List ℕ) (all : List MetaRow) (limits : Limits) (told told' : FilesTold) (counts counts' : List ℕ → ℕ)
    (left : Zone → Zone) (took : List Zone → Type 0) (i : ℕ) (rows : ReadRows) (earlier : EarlierRows) : Type 0 where
  pub whole : ReadRows
  pub so_far : Follows told' (with_rows_unless skips meta 1 all (no_rows limits)) (with_rows_unless skips meta (i + 1) (drop i all) whole)
  pub source : ReadsFor told told' counts counts' (with_rows_unless skips meta 1 all (no_rows limits))
  pub earlier_are : AreEarlier skips meta told' all whole earlier
  pub count : length whole.rows ≡ i
  pub is : rows ≡ rows_left left whole
  pub taken : AreTaken took (zones_in whole.servers)

-- a row's zone that was read, and whose server may have it, answers the reading of the row
pub HasLeft-row : {told told' : FilesTold} {counts counts' : List ℕ → ℕ} (skips : MetaRow → Bool) (meta : List ℕ) (number : ℕ) (row : MetaRow) (whole : ReadRows) (read : ReadZone) (left : Zone → Zone) (took : List Zone → Type 0)
    (origin_is : (zone : Zone) → (left zone).origin ≡ zone.origin) (taken : AreTaken took (zones_in whole.servers ++ read.zone ∷ [])) (result : Result ReadRows LoadFault)
    → (let answer : Result ReadZone LoadFault = Ok read in HasAnswered told told' counts counts' (zone_unless skips meta row whole.left) answer)
    → AnswersOr NoMemory result (row_read number row.server (read_left left read) (rows_left left whole))
    → HasLeft told told' counts counts' (with_row_unless skips meta number row whole) (rows_left left) (λ (all : ReadRows). AreTaken took (zones_in all.servers)) result
HasLeft-row skips meta number row whole read left took origin_is taken result answered said =
    let one = row_answer left origin_is number row.server read whole took taken result said in
    record { whole = one.whole; answered = HasAnswered-read skips meta number row whole read one.whole answered one.answers; is = one.is }
