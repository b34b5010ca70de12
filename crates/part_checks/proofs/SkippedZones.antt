-- Of a configuration of which zones that a part skips have no records the same is left for the part as of the whole, and it
-- asks the same of both.
use Rattle.std.proofs.Common.{◌≡◌, ◌∙◌, ℕ, Bool, true, false, cond, List, [], ◌∷◌, ◌++◌, ◌⊎◌, length, map, filter, find, is_some, Contains, Option, Some, None, refl, sym, ap, subst, inl, inr, true≢false}
use Rattle.std.specs.Prelude.{◌&&◌, ◌||◌, not}
use Rattle.std.specs.List.{AllZip}
use Rattle.std.specs.Ordering.{is_lt, ordering_then}
use Rattle.std.specs.declared.cmp.Ordering.{Ordering}
use Rattle.std.specs.declared.cmp.Ordering.TheVariants.{Less, Equal, Greater}
use Rattle.std.proofs.lemmas.List.Elements.{Contains-append_cases}
use Rattle.dns_data.specs.Label.{label_cmp}
use Rattle.dns_data.specs.Name.{Labels, is_among, is_prefix, name_cmp, name_eq}
use Rattle.dns_data.specs.declared.rdata.Rr.{Rr}
use Rattle.dns_data.proofs.Membership.{first_or_later, from_flat_map, from_map, has_first, has_later, none_in_nil}
use Rattle.dns_data.proofs.NameFronts.{is_prefix_tells, is_prefix_told}
use Rattle.dns_data.proofs.NameOrder.{same_labels}
use Rattle.config_load.specs.Skipped.{IsConfigUnless, IsServerUnless, IsZoneUnless}
use Rattle.net_model.specs.Configured.{KeepsWithin}
use Rattle.net_model.specs.Nearest.{is_configured, is_top}
use Rattle.net_model.specs.Reading.{ground_of, origins_and_owners, records, redirections_of, zones}
use Rattle.net_model.specs.declared.config.Config.{Config}
use Rattle.net_model.specs.declared.config.Server.{Server}
use Rattle.net_model.specs.declared.config.Zone.{Zone}
use Rattle.net_model.proofs.Naming.{is_listed}
use Rattle.net_model.proofs.NearestZones.{origin_of_config, owner_of_config, zone_of_config}
use Rattle.part_laws.specs.Part.{HasRecord, HasShorterUnnamed, IsPart, restricted, restricted_server, restricted_zone}
use Rattle.part_laws.specs.RecordByRecord.{LeavesAt}
use Rattle.part_laws.proofs.MetByEach.{met_by_each}
use Rattle.part_laws.proofs.WithPrefixes.{prefixes_there}
use Rattle.part_names.specs.PartNames.{begun_at, ends_behind, is_own}
use Rattle.part_names.specs.declared.names.PartNames.{PartNames}
use Rattle.part_checks.specs.Parts.{held_by}
use Rattle.part_checks.specs.Rules.{IsReferral, Keeps, StartLeaves}
use Rattle.part_checks.specs.Skipped.{begins_past, ends_before, is_apart, is_skipped}
use Rattle.part_checks.specs.declared.fault.PartRule.{PartRule}
use Rattle.part_checks.proofs.Rules.{meets_each, own_held}
use Rattle.part_checks.specs.declared.fault.PartRule.TheVariants.{Met, Exists, Short, Apart, Alias, Redirects, Referral, Own, Away}

-- ---- names at or below one that lies apart

-- all names at or below one that stands before another, and doesn't begin it, stand before it
below_less : (name below from : Labels) → is_lt (name_cmp name from) ≡ true → ((rest : Labels) → name ++ rest ≡ from → ⊥) → is_lt (name_cmp (name ++ below) from) ≡ true
below_less [] below from less none = absurd (none from refl)
below_less (label ∷ name) below [] less none = absurd cc
below_less (label ∷ name) below (first ∷ from) less none = by (label_cmp label first) refl less (below_less name below from) where
  by : (o : Ordering) → label_cmp label first ≡ o → is_lt (ordering_then o (name_cmp name from)) ≡ true
      → (is_lt (name_cmp name from) ≡ true → ((rest : Labels) → name ++ rest ≡ from → ⊥) → is_lt (name_cmp (name ++ below) from) ≡ true)
      → is_lt (ordering_then o (name_cmp (name ++ below) from)) ≡ true
  by Less is before later = refl
  by Equal is before later =
      let same : label ≡ first = same_labels label first is in
      later before (λ rest e. none rest (λ i. same i ∷ e i))
  by Greater is before later = absurd cc

-- all names at or below one that doesn't stand before another don't either
below_not_less : (name below to : Labels) → is_lt (name_cmp name to) ≡ false → is_lt (name_cmp (name ++ below) to) ≡ false
below_not_less [] [] [] not_less = refl
below_not_less [] (label ∷ below) [] not_less = refl
below_not_less [] below (first ∷ to) not_less = absurd cc
below_not_less (label ∷ name) below [] not_less = refl
below_not_less (label ∷ name) below (first ∷ to) not_less = by (label_cmp label first) not_less (below_not_less name below to) where
  by : (o : Ordering) → is_lt (ordering_then o (name_cmp name to)) ≡ false → (is_lt (name_cmp name to) ≡ false → is_lt (name_cmp (name ++ below) to) ≡ false)
      → is_lt (ordering_then o (name_cmp (name ++ below) to)) ≡ false
  by Less behind later = absurd cc
  by Equal behind later = later behind
  by Greater behind later = refl

both_true : (a b : Bool) → (a && b) ≡ true → (a ≡ true) × (b ≡ true)
both_true true b e = (refl, e)
both_true false b e = absurd cc

one_true : (a b : Bool) → (a || b) ≡ true → (a ≡ true) ⊎ (b ≡ true)
one_true true b e = inl refl
one_true false b e = inr e

not_true : (b : Bool) → not b ≡ true → b ≡ false
not_true true e = absurd cc
not_true false e = refl

-- own names that end before a name end before all at or below it
ended_below : (to : Option Labels) (name below : Labels) → ends_before to name ≡ true → ends_behind to (name ++ below) ≡ false
ended_below None name below e = absurd cc
ended_below (Some to) name below e = below_not_less name below to (not_true (is_lt (name_cmp name to)) e)

-- own names that begin behind a name and all below it
begun_below : (from : Option Labels) (name below : Labels) → begins_past from name ≡ true → begun_at from (name ++ below) ≡ false
begun_below None name below e = absurd cc
begun_below (Some from) name below e =
    let (before, apart) = both_true (is_lt (name_cmp name from)) (not (is_prefix name from)) e in
    let none : (rest : Labels) → name ++ rest ≡ from → ⊥ =
    λ rest begins. true≢false (sym (is_prefix_told name from (rest, begins)) ∙ not_true (is_prefix name from) apart) in
    ap not (below_less name below from before none)

-- no name at or below one that lies apart is own
apart_below : (names : PartNames) (name below : Labels) → is_apart names name ≡ true → is_own names (name ++ below) ≡ false
apart_below names name below e =
    elim (one_true (ends_before names.to name) (begins_past names.from name) e) [
      | inl ended ↦ by (begun_at names.from (name ++ below)) (ended_below names.to name below ended)
      | inr begun ↦ ap (λ (b : Bool). b && ends_behind names.to (name ++ below)) (begun_below names.from name below begun)
    ]
  where
    by : (b : Bool) → ends_behind names.to (name ++ below) ≡ false → (b && ends_behind names.to (name ++ below)) ≡ false
    by true is = is
    by false is = refl

-- ---- fronts of one name

-- of two fronts of one name one begins the other
fronts : (a x b y : Labels) → a ++ x ≡ b ++ y → ((m : Labels) × (b ≡ a ++ m)) ⊎ ((m : Labels) × (a ≡ b ++ m))
fronts [] x b y e = inl (b, refl)
fronts (l ∷ a) x [] y e = inr (l ∷ a, refl)
fronts (l ∷ a) x (k ∷ b) y e =
    let head : l ≡ k = cc in
    let tail : a ++ x ≡ b ++ y = cc in
    elim (fronts a x b y tail) [
      | inl (m, is) ↦ inl (m, λ i. sym head i ∷ is i)
      | inr (m, is) ↦ inr (m, λ i. head i ∷ is i)
    ]

-- a front that doesn't begin a name above the next label goes on with that label
with_label : (above : Labels) (label : List ℕ) (below front rest : Labels) → above ++ label ∷ below ≡ front ++ rest → ((m : Labels) → front ++ m ≡ above → ⊥)
    → (m : Labels) × (front ≡ above ++ label ∷ m)
with_label [] label below [] rest e none = absurd (none [] refl)
with_label [] label below (k ∷ front) rest e none = let head : label ≡ k = cc in (front, λ i. sym head i ∷ front)
with_label (l ∷ above) label below [] rest e none = absurd (none (l ∷ above) refl)
with_label (l ∷ above) label below (k ∷ front) rest e none =
    let head : l ≡ k = cc in
    let tail : above ++ label ∷ below ≡ front ++ rest = cc in
    let (m, is) = with_label above label below front rest tail (λ m begins. none m (λ i. sym head i ∷ begins i)) in
    (m, λ i. sym head i ∷ is i)

-- ---- lists side by side

module _ {A B : Type 0} (R : A → B → Type 0) where
  beside_first : (xs : List A) (ys : List B) → AllZip R xs ys → (x : A) → Contains xs x → (y : B) × Contains ys y × R x y
  beside_first [] ys are x has = absurd (none_in_nil x has)
  beside_first (one ∷ xs) [] never x has = absurd never
  beside_first (one ∷ xs) (other ∷ ys) (first, rest) x has =
      elim (first_or_later one xs x has) [
        | inl same ↦ (other, has_first other ys, subst (λ (a : A). R a other) same first)
        | inr later ↦ (let (y, there, is) = beside_first xs ys rest x later in (y, has_later other ys y there, is))
      ]

  beside_second : (xs : List A) (ys : List B) → AllZip R xs ys → (y : B) → Contains ys y → (x : A) × Contains xs x × R x y
  beside_second xs [] are y has = absurd (none_in_nil y has)
  beside_second [] (other ∷ ys) never y has = absurd never
  beside_second (one ∷ xs) (other ∷ ys) (first, rest) y has =
      elim (first_or_later other ys y has) [
        | inl same ↦ (one, has_first one xs, subst (λ (b : B). R one b) same first)
        | inr later ↦ (let (x, there, is) = beside_second xs ys rest y later in (x, has_later one xs x there, is))
      ]

-- ---- origins and owners

-- a zone of the configuration has the origin, or a record of the owner
data IsStart (config : Config) (start : Labels) : Type 0 where
  OfOrigin : (zone : Zone) → Contains (zones config) zone → zone.origin ≡ start → IsStart config start
  OfOwner : (zone : Zone) (rr : Rr) → Contains (zones config) zone → Contains zone.rrs rr → rr.owner ≡ start → IsStart config start

from_start : (config : Config) (start : Labels) → Contains (origins_and_owners config) start → IsStart config start
from_start config start has =
    elim (Contains-append_cases (map (λ (z : Zone). z.origin) (zones config)) (map (λ (r : Rr). r.owner) (records config)) start has) [
      | inl origin ↦ (let (zone, among, is) = from_map (λ (z : Zone). z.origin) (zones config) start origin in OfOrigin zone among is)
      | inr owner ↦ (
          let (rr, among, is) = from_map (λ (r : Rr). r.owner) (records config) start owner in
          let (zone, of_config, of_zone) = from_flat_map (λ (z : Zone). z.rrs) (zones config) rr among in
          OfOwner zone rr of_config of_zone is)
    ]

module _ (names : PartNames) where
  abbrev held : List Labels
  held = held_by names

  -- no name at or below the origin of a zone that is skipped is held or own
  skipped_apart : (origin below : Labels) → is_skipped names origin ≡ true → is_own names (origin ++ below) ≡ false
  skipped_apart origin below e = apart_below names origin below (both_true (is_apart names origin) (not (is_among held origin)) e).0

  skipped_outside : (origin : Labels) → is_skipped names origin ≡ true → is_among held origin ≡ false
  skipped_outside origin e = not_true (is_among held origin) (both_true (is_apart names origin) (not (is_among held origin)) e).1

  none_held : (origin below : Labels) → is_skipped names origin ≡ true → Contains held (origin ++ below) → ⊥
  none_held origin below e has =
      true≢false (sym (is_listed held origin (prefixes_there names.held origin below has)) ∙ skipped_outside origin e)

  -- ---- what is left

  abbrev test : Zone → Bool
  test zone = is_among held zone.origin

  zones_left : (whole zones : List Zone) → AllZip (IsZoneUnless (is_skipped names)) whole zones
      → map (restricted_zone held) (filter test zones) ≡ map (restricted_zone held) (filter test whole)
  zones_left [] [] are = refl
  zones_left [] (zone ∷ zones) never = absurd never
  zones_left (one ∷ whole) [] never = absurd never
  zones_left (one ∷ whole) (zone ∷ zones) (first, rest) = by first (zones_left whole zones rest) where
    picked : (b : Bool) → map (restricted_zone held) (filter test zones) ≡ map (restricted_zone held) (filter test whole)
        → map (restricted_zone held) (cond b (one ∷ filter test zones) (filter test zones)) ≡ map (restricted_zone held) (cond b (one ∷ filter test whole) (filter test whole))
    picked true later = ap (λ (left : List Zone). restricted_zone held one ∷ left) later
    picked false later = later

    by : IsZoneUnless (is_skipped names) one zone → map (restricted_zone held) (filter test zones) ≡ map (restricted_zone held) (filter test whole)
        → map (restricted_zone held) (cond (test zone) (zone ∷ filter test zones) (filter test zones)) ≡ map (restricted_zone held) (cond (test one) (one ∷ filter test whole) (filter test whole))
    by (inl same) later =
        ap (λ (z : Zone). map (restricted_zone held) (cond (test z) (z ∷ filter test zones) (filter test zones))) same ∙ picked (test one) later
    by (inr (skipped, keeps, is)) later =
        let out : test one ≡ false = skipped_outside one.origin skipped in
        let also : test zone ≡ false = ap test is ∙ out in
        ap (λ (b : Bool). map (restricted_zone held) (cond b (zone ∷ filter test zones) (filter test zones))) also
        ∙ later
        ∙ ap (λ (b : Bool). map (restricted_zone held) (cond b (one ∷ filter test whole) (filter test whole))) (sym out)

  servers_left : (whole servers : List Server) → AllZip (IsServerUnless (is_skipped names)) whole servers
      → map (restricted_server held) servers ≡ map (restricted_server held) whole
  servers_left [] [] are = refl
  servers_left [] (server ∷ servers) never = absurd never
  servers_left (one ∷ whole) [] never = absurd never
  servers_left (one ∷ whole) (server ∷ servers) (first, rest) =
      λ i. record { name = first.name i; zones = zones_left one.zones server.zones first.zones i } ∷ servers_left whole servers rest i

  -- servers of the same names are configured
  named_same : (name : Labels) (whole servers : List Server) → AllZip (IsServerUnless (is_skipped names)) whole servers
      → is_some (find (λ (server : Server). name_eq server.name name) servers) ≡ is_some (find (λ (server : Server). name_eq server.name name) whole)
  named_same name [] [] are = refl
  named_same name [] (server ∷ servers) never = absurd never
  named_same name (one ∷ whole) [] never = absurd never
  named_same name (one ∷ whole) (server ∷ servers) (first, rest) =
      ap (λ (n : Labels). is_some (cond (name_eq n name) (Some server) (find (λ (server : Server). name_eq server.name name) servers))) first.name
      ∙ by (name_eq one.name name) (named_same name whole servers rest)
    where
      by : (b : Bool) → is_some (find (λ (server : Server). name_eq server.name name) servers) ≡ is_some (find (λ (server : Server). name_eq server.name name) whole)
          → is_some (cond b (Some server) (find (λ (server : Server). name_eq server.name name) servers))
          ≡ is_some (cond b (Some one) (find (λ (server : Server). name_eq server.name name) whole))
      by true later = refl
      by false later = later

  module _ (whole config : Config) (is : IsConfigUnless (is_skipped names) whole config) where
    -- the same is left of both
    pub left_same : restricted held config ≡ restricted held whole
    left_same = λ i. record { tops = is.tops i; servers = servers_left whole.servers config.servers is.servers i }

    configured_same : (name : Labels) → is_configured config name ≡ is_configured whole name
    configured_same name = named_same name whole.servers config.servers is.servers

    top_same : (name : Labels) → is_top config name ≡ is_top whole name
    top_same name = ap (λ (tops : List Labels). is_among tops name) is.tops

    -- ---- zones side by side

    of_whole : (zone : Zone) → Contains (zones whole) zone → (other : Zone) × Contains (zones config) other × IsZoneUnless (is_skipped names) zone other
    of_whole zone has =
        let (server, among, inside) = from_flat_map (λ (s : Server). s.zones) whole.servers zone has in
        let (other, there, beside) = beside_first (IsServerUnless (is_skipped names)) whole.servers config.servers is.servers server among in
        let (found, within, unless) = beside_first (IsZoneUnless (is_skipped names)) server.zones other.zones beside.zones zone inside in
        (found, zone_of_config config other found there within, unless)

    of_config : (zone : Zone) → Contains (zones config) zone → (other : Zone) × Contains (zones whole) other × IsZoneUnless (is_skipped names) other zone
    of_config zone has =
        let (server, among, inside) = from_flat_map (λ (s : Server). s.zones) config.servers zone has in
        let (other, there, beside) = beside_second (IsServerUnless (is_skipped names)) whole.servers config.servers is.servers server among in
        let (found, within, unless) = beside_second (IsZoneUnless (is_skipped names)) other.zones server.zones beside.zones zone inside in
        (found, zone_of_config whole other found there within, unless)

    -- records of zones whose origins are held are those of both
    record_read : (zone : Zone) (rr : Rr) → HasRecord whole zone rr → Contains held zone.origin → HasRecord config zone rr
    record_read zone rr has there = by (of_whole zone has.of_config) where
      by : ((other : Zone) × Contains (zones config) other × IsZoneUnless (is_skipped names) zone other) → HasRecord config zone rr
      by (other, among, inl same) = record { of_config = subst (Contains (zones config)) same among; of_zone = has.of_zone }
      by (other, among, inr (skipped, keeps, same)) =
          absurd (true≢false (sym (is_listed held zone.origin there) ∙ skipped_outside zone.origin skipped))

    record_there : (zone : Zone) (rr : Rr) → HasRecord config zone rr → HasRecord whole zone rr
    record_there zone rr has = by (of_config zone has.of_config) where
      by : ((other : Zone) × Contains (zones whole) other × IsZoneUnless (is_skipped names) other zone) → HasRecord whole zone rr
      by (other, among, inl same) = record { of_config = subst (Contains (zones whole)) (sym same) among; of_zone = has.of_zone }
      by (other, among, inr (skipped, keeps, same)) =
          absurd (none_in_nil rr (subst (λ (z : Zone). Contains z.rrs rr) same has.of_zone))

    -- ---- origins and owners of both

    -- an origin or owner of the configuration is one of the whole
    start_there : (start : Labels) → Contains (origins_and_owners config) start → Contains (origins_and_owners whole) start
    start_there start has = by (from_start config start has) where
      by : IsStart config start → Contains (origins_and_owners whole) start
      by (OfOwner zone rr among inside e) =
          let there = record_there zone rr (record { of_config = among; of_zone = inside }) in
          subst (Contains (origins_and_owners whole)) e (owner_of_config whole zone rr there.of_config there.of_zone)
      by (OfOrigin zone among e) = on (of_config zone among) where
        on : ((other : Zone) × Contains (zones whole) other × IsZoneUnless (is_skipped names) other zone) → Contains (origins_and_owners whole) start
        on (other, there, inl same) =
            subst (Contains (origins_and_owners whole)) (ap (λ (z : Zone). z.origin) (sym same) ∙ e) (origin_of_config whole other there)
        on (other, there, inr (skipped, keeps, same)) =
            subst (Contains (origins_and_owners whole)) (ap (λ (z : Zone). z.origin) (sym same) ∙ e) (origin_of_config whole other there)

    -- the name is at or below the origin of a zone that is skipped
    record IsBelowSkipped (start : Labels) : Type 0 where
      origin : Labels
      among : Contains (origins_and_owners config) origin
      skipped : is_skipped names origin ≡ true
      below : Labels
      begins : origin ++ below ≡ start

    -- an origin or owner of the whole is one of the configuration, or stands below the origin of a zone that is skipped
    start_read : (start : Labels) → Contains (origins_and_owners whole) start → Contains (origins_and_owners config) start ⊎ IsBelowSkipped start
    start_read start has = by (from_start whole start has) where
      by : IsStart whole start → Contains (origins_and_owners config) start ⊎ IsBelowSkipped start
      by (OfOrigin zone among e) = on (of_whole zone among) where
        on : ((other : Zone) × Contains (zones config) other × IsZoneUnless (is_skipped names) zone other) → Contains (origins_and_owners config) start ⊎ IsBelowSkipped start
        on (other, there, inl same) = inl (subst (Contains (origins_and_owners config)) (ap (λ (z : Zone). z.origin) same ∙ e) (origin_of_config config other there))
        on (other, there, inr (skipped, keeps, same)) =
            inl (subst (Contains (origins_and_owners config)) (ap (λ (z : Zone). z.origin) same ∙ e) (origin_of_config config other there))
      by (OfOwner zone rr among inside e) = on (of_whole zone among) where
        on : ((other : Zone) × Contains (zones config) other × IsZoneUnless (is_skipped names) zone other) → Contains (origins_and_owners config) start ⊎ IsBelowSkipped start
        on (other, there, inl same) =
            inl (subst (Contains (origins_and_owners config)) e (owner_of_config config other rr there (subst (λ (z : Zone). Contains z.rrs rr) (sym same) inside)))
        on (other, there, inr (skipped, keeps, same)) =
            let (below, begins) = is_prefix_tells zone.origin rr.owner (keeps rr inside) in
            inr (record {
              origin = zone.origin;
              among = subst (Contains (origins_and_owners config)) (ap (λ (z : Zone). z.origin) same) (origin_of_config config other there);
              skipped = skipped;
              below = below;
              begins = begins ∙ e;
            })

    -- a name at or below the origin of a zone that is skipped leaves the held names where the origin does
    leaves_origin : (start above : Labels) (label : List ℕ) → LeavesAt held start above label → (skip : IsBelowSkipped start) → LeavesAt held skip.origin above label
    leaves_origin start above label leaves skip =
        let (below, e) = with_label above label leaves.below skip.origin skip.below (sym leaves.is ∙ sym skip.begins)
        (λ m begins. none_held skip.origin m skip.skipped (subst (Contains held) (sym begins) leaves.held)) in
        record { below = below; is = e; held = leaves.held; not_held = leaves.not_held }

    -- so names of both leave the held ones alike
    leaves_read : (above : Labels) (label : List ℕ) → StartLeaves whole names above label → StartLeaves config names above label
    leaves_read above label one = by (start_read one.start one.among) where
      by : Contains (origins_and_owners config) one.start ⊎ IsBelowSkipped one.start → StartLeaves config names above label
      by (inl among) = record { start = one.start; among = among; leaves = one.leaves }
      by (inr skip) = record { start = skip.origin; among = skip.among; leaves = leaves_origin one.start above label one.leaves skip }

    leaves_there : (above : Labels) (label : List ℕ) → StartLeaves config names above label → StartLeaves whole names above label
    leaves_there above label one = record { start = one.start; among = start_there one.start one.among; leaves = one.leaves }

    -- own prefixes of origins and owners of the whole are held if those of the configuration's are
    own_there : Keeps config names Own → (start : Labels) → Contains (origins_and_owners whole) start → (above below : Labels) → start ≡ above ++ below → is_own names above ≡ true → Contains held above
    own_there kept start among above below e own = by (start_read start among) where
      by : Contains (origins_and_owners config) start ⊎ IsBelowSkipped start → Contains held above
      by (inl read) = kept start read above below e own
      by (inr skip) = on (fronts above below skip.origin skip.below (sym e ∙ sym skip.begins)) where
        on : ((m : Labels) × (skip.origin ≡ above ++ m)) ⊎ ((m : Labels) × (above ≡ skip.origin ++ m)) → Contains held above
        on (inl (m, begins)) = kept skip.origin skip.among above m begins own
        on (inr (m, begins)) = absurd (true≢false (sym own ∙ ap (is_own names) begins ∙ skipped_apart skip.origin m skip.skipped))

    -- ---- the rules

    referral_read : (ns : Labels) → IsReferral whole names ns → IsReferral config names ns
    referral_read ns asks = record {
      zone = asks.zone;
      rr = asks.rr;
      left = subst (λ (c : Config). HasRecord c asks.zone asks.rr) (sym left_same) asks.left;
      below = asks.below;
      is = asks.is;
      matters = elim asks.matters [
        | inl inside ↦ inl inside
        | inr (configured, top) ↦ inr (configured_same ns ∙ configured, top_same ns ∙ top)
      ];
    }

    referral_there : (ns : Labels) → IsReferral config names ns → IsReferral whole names ns
    referral_there ns asks = record {
      zone = asks.zone;
      rr = asks.rr;
      left = subst (λ (c : Config). HasRecord c asks.zone asks.rr) left_same asks.left;
      below = asks.below;
      is = asks.is;
      matters = elim asks.matters [
        | inl inside ↦ inl inside
        | inr (configured, top) ↦ inr (sym (configured_same ns) ∙ configured, sym (top_same ns) ∙ top)
      ];
    }

    -- a rule that holds of the configuration holds of the whole
    pub keeps_whole : (rule : PartRule) → Keeps config names rule → Keeps whole names rule
    keeps_whole Met kept = λ name has. subst (λ (c : Config). Contains (origins_and_owners c) name) left_same (kept name has)
    keeps_whole Exists kept = λ zone rr has there above label leaves. kept zone rr (record_read zone rr has there) there above label leaves
    keeps_whole Short kept = λ above label start. subst (λ (c : Config). HasShorterUnnamed (ground_of c) above (length label)) left_same (kept above label (leaves_read above label start))
    keeps_whole Apart kept = λ above label start redirection has.
        kept above label (leaves_read above label start) redirection (subst (λ (c : Config). Contains (redirections_of c) redirection) (sym left_same) has)
    keeps_whole Alias kept = λ zone rr target has e. kept zone rr target (subst (λ (c : Config). HasRecord c zone rr) (sym left_same) has) e
    keeps_whole Redirects kept = λ redirection has. kept redirection (subst (λ (c : Config). Contains (redirections_of c) redirection) (sym left_same) has)
    keeps_whole Referral kept = λ ns asks. kept ns (referral_read ns asks)
    keeps_whole Own kept = own_there kept
    keeps_whole Away kept = λ above label start told. kept above label (leaves_read above label start) told

    -- and the other way round
    pub keeps_read : (rule : PartRule) → Keeps whole names rule → Keeps config names rule
    keeps_read Met kept = λ name has. subst (λ (c : Config). Contains (origins_and_owners c) name) (sym left_same) (kept name has)
    keeps_read Exists kept = λ zone rr has there above label leaves. kept zone rr (record_there zone rr has) there above label leaves
    keeps_read Short kept = λ above label start. subst (λ (c : Config). HasShorterUnnamed (ground_of c) above (length label)) (sym left_same) (kept above label (leaves_there above label start))
    keeps_read Apart kept = λ above label start redirection has.
        kept above label (leaves_there above label start) redirection (subst (λ (c : Config). Contains (redirections_of c) redirection) left_same has)
    keeps_read Alias kept = λ zone rr target has e. kept zone rr target (subst (λ (c : Config). HasRecord c zone rr) left_same has) e
    keeps_read Redirects kept = λ redirection has. kept redirection (subst (λ (c : Config). Contains (redirections_of c) redirection) left_same has)
    keeps_read Referral kept = λ ns asks. kept ns (referral_there ns asks)
    keeps_read Own kept = λ start among above below e own. kept start (start_there start among) above below e own
    keeps_read Away kept = λ above label start told. kept above label (leaves_there above label start) told

    -- names that make a part of the configuration make one of the whole
    pub part_whole : ((rule : PartRule) → Keeps config names rule) → IsPart config held → IsPart whole held
    part_whole kept part = met_by_each whole held (meets_each whole names (λ rule. keeps_whole rule (kept rule)) within) where
      within : (zone : Zone) → Contains (zones whole) zone → KeepsWithin zone
      within zone has = by (of_whole zone has) where
        by : ((other : Zone) × Contains (zones config) other × IsZoneUnless (is_skipped names) zone other) → KeepsWithin zone
        by (other, among, inl same) =
            λ rr inside. part.within zone rr (record { of_config = subst (Contains (zones config)) same among; of_zone = inside })
        by (other, among, inr (skipped, keeps, same)) = keeps

    -- and hold its own base names
    pub own_whole : ((rule : PartRule) → Keeps config names rule) → (name : Labels) → Contains (ground_of whole).names name → is_own names name ≡ true → Contains held name
    own_whole kept = own_held whole names (λ rule. keeps_whole rule (kept rule))
