-- Names of which all is checked keep the rules of a part.
use Rattle.std.proofs.Common.{◌≡◌, ◌≢◌, ◌∙◌, Bool, true, false, Bor, List, [], ◌∷◌, ◌++◌, length, map, flat_map, find, ℕ, ◌-◌, All, Contains, Option, Some, None, refl, sym, ap, ap₂, subst, inl, inr, arith, append-nil, true≢false}
use Rattle.std.specs.Prelude.{not, ◌&&◌}
use Rattle.std.proofs.lemmas.List.{take_at, length-append}
use Rattle.std.proofs.lemmas.List.Elements.{All-contains, All-map, Contains-append_left, Contains-append_right, Contains-append_cases}
use Rattle.std.proofs.lemmas.Bool.{and_from, or_left, or_right}
use Rattle.dns_data.specs.Name.{Labels, is_among, is_prefix, name_eq, wire_octets}
use Rattle.dns_data.specs.declared.rdata.Rdata.{Rdata}
use Rattle.dns_data.specs.declared.rdata.Rdata.TheVariants.{Ns, Cname, Dname}
use Rattle.dns_data.specs.declared.rdata.Rr.{Rr}
use Rattle.dns_data.proofs.Membership.{first_or_later, has_first, has_later, none_in_nil, map_has, from_map, from_flat_map, flat_map_has}
use Rattle.dns_data.proofs.NameFronts.{octets_with_label}
use Rattle.dns_data.proofs.Names.{name_eq_decides}
use Rattle.dns_data.proofs.Searches.{find_some}
use Rattle.net_model.specs.Nearest.{is_configured}
use Rattle.net_model.specs.Prefix.{prefixes}
use Rattle.net_model.specs.Reading.{Redirection, zones, records, origins_and_owners, redirection_of, redirections_of, ground_of, IsNamed}
use Rattle.net_model.specs.Zone.{exists_in}
use Rattle.net_model.specs.declared.config.Config.{Config}
use Rattle.net_model.specs.declared.config.Zone.{Zone}
use Rattle.net_model.proofs.Naming.{is_listed, from_listed}
use Rattle.net_model.proofs.Prefixes.{prefixes_have}
use Rattle.base_names.specs.Base.{zone_redirections}
use Rattle.part_laws.specs.Part.{restricted, restricted_zone, HasRecord}
use Rattle.part_laws.specs.RecordByRecord.{LeavesAt}
use Rattle.part_laws.proofs.LocalNames.{held_or_not}
use Rattle.part_laws.proofs.WithPrefixes.{root_there, prefixes_there, met_there}
use Rattle.part_names.specs.PartNames.{is_own}
use Rattle.part_names.specs.declared.names.PartNames.{PartNames}
use Rattle.part_checks.specs.Outside.{first_outside, is_outside, parent, zone_names, HasOutside, IsApart, IsBelowHeld, IsLasting, IsPassed, IsHeldOrAtAway}
use Rattle.part_checks.specs.Parts.{held_by}
use Rattle.part_checks.specs.Rules.{IsHeldOrLeavesAtAway, Keeps}
use Rattle.part_checks.specs.Short.{HasShorter}
use Rattle.part_checks.specs.Targets.{IsLed, LeadsInside}
use Rattle.part_checks.specs.declared.fault.PartRule.{PartRule}
use Rattle.part_checks.specs.declared.fault.PartRule.TheVariants.{Met, Exists, Short, Apart, Alias, Redirects, Referral, Own, Away}
use Rattle.part_checks.proofs.Prefixes.{first_at, from_first}

-- a name that isn't in a list is told as none
pub not_among : (names : List Labels) (name : Labels) → (Contains names name → ⊥) → is_among names name ≡ false
not_among names name none = by (is_among names name) refl where
  by : (b : Bool) → is_among names name ≡ b → b ≡ false
  by true e = absurd (none (from_listed names name e))
  by false e = refl

-- what isn't false is true
from_not : (b : Bool) → not b ≡ false → b ≡ true
from_not true e = refl
from_not false e = absurd (true≢false e)

-- a search that finds nothing has nothing that passes
found_none : (test : Labels → Bool) (names : List Labels) (name : Labels) → find test names ≡ None → Contains names name → test name ≡ false
found_none test names name none has = by (test name) refl where
  by : (b : Bool) → test name ≡ b → b ≡ false
  by false e = refl
  by true e =
      let (found, is, passes) = find_some test names name has e in
      let clash : None ≡ Some found = sym none ∙ is in
      cc

-- a name without the label below it
pub parent_is : (above : Labels) (label : List ℕ) → parent (above ++ label ∷ []) ≡ above
parent_is above label = take_at above (label ∷ []) (length (above ++ label ∷ []) - 1) (omega (arith, length-append above (label ∷ [])))

-- the origin of a zone and the owners of its records are among those of the configuration
pub start_of : (config : Config) (zone : Zone) → Contains (zones config) zone → (name : Labels) → Contains (zone_names zone) name → Contains (origins_and_owners config) name
start_of config zone among name has =
    elim (first_or_later zone.origin (map (λ (r : Rr). r.owner) zone.rrs) name has) [
      | inl origin ↦ subst (Contains (origins_and_owners config)) origin
          (Contains-append_left (map (λ (z : Zone). z.origin) (zones config)) (map (λ (r : Rr). r.owner) (records config)) zone.origin
          (map_has (λ (z : Zone). z.origin) (zones config) zone among))
      | inr owner ↦ (
          let (rr, of_zone, is) = from_map (λ (r : Rr). r.owner) zone.rrs name owner in
          subst (Contains (origins_and_owners config)) is
          (Contains-append_right (map (λ (z : Zone). z.origin) (zones config)) (map (λ (r : Rr). r.owner) (records config)) rr.owner
          (map_has (λ (r : Rr). r.owner) (records config) rr (flat_map_has (λ (z : Zone). z.rrs) (zones config) zone rr among of_zone))))
    ]

-- the redirection of data is to their target
of_dname : (owner : Labels) (rdata : Rdata) (redirection : Redirection) → Contains (redirection_of owner rdata) redirection → rdata ≡ Dname redirection.target
of_dname owner (Dname target) redirection has = elim (first_or_later (record { owner = owner; target = target }) [] redirection has) [
  | inl same ↦ ap (λ (r : Redirection). Dname r.target) same
  | inr later ↦ absurd (none_in_nil redirection later)
]
of_dname owner other redirection has = absurd (none_in_nil redirection has)

module _ (names : PartNames) where
  -- a name that leaves the held names leaves them at its first prefix outside
  pub leaves_first : (name above : Labels) (label : List ℕ) → LeavesAt (held_by names) name above label → first_outside names name ≡ Some (above ++ label ∷ [])
  leaves_first name above label leaves =
      ap (first_outside names) leaves.is
      ∙ first_at (is_outside names) above label leaves.below
      (λ top rest e. ap not (is_listed (held_by names) top (prefixes_there names.held top rest (subst (Contains (held_by names)) (sym e) leaves.held))))
      (ap not (not_among (held_by names) (above ++ label ∷ []) leaves.not_held))

  -- and the other way about
  pub record FirstLeaves (name front : Labels) : Type 0 where
    pub above : Labels
    pub label : List ℕ
    pub front_is : front ≡ above ++ label ∷ []
    pub leaves : LeavesAt (held_by names) name above label

  pub first_leaves : (name front : Labels) → first_outside names name ≡ Some front → FirstLeaves name front
  first_leaves name front found =
      let at = from_first (is_outside names) name front found (ap not (is_listed (held_by names) [] (root_there names.held))) in
      record {
        above = at.above;
        label = at.label;
        front_is = at.front_is;
        leaves = record {
          below = at.below;
          is = at.is;
          held = from_listed (held_by names) at.above (from_not (is_among (held_by names) at.above) at.fails);
          not_held = λ has. true≢false
              (sym at.passes ∙ ap not (is_listed (held_by names) front (subst (Contains (held_by names)) (sym at.front_is) has)));
        };
      }

  -- the name above a first prefix outside is held
  pub first_below : (name front : Labels) → first_outside names name ≡ Some front → IsBelowHeld names front
  first_below name front found =
      let at = first_leaves name front found in
      is_listed (held_by names) (parent front)
      (subst (Contains (held_by names)) (sym (ap parent at.front_is ∙ parent_is at.above at.label)) at.leaves.held)

  module _ (whole : Config) (left_zones : List (Bor Zone)) (outside : List Labels)
      (of_left : map (λ (zone : Bor Zone). zone.now) left_zones ≡ zones (restricted (held_by names) whole))
      (passed : (zone : Zone) → Contains (zones whole) zone → All (IsPassed names outside) (zone_names zone)) where
    -- what holds of all zones holds of each
    each_zone : (P : Zone → Type 0) (items : List (Bor Zone)) (config : Config) → map (λ (zone : Bor Zone). zone.now) items ≡ zones config
        → All (λ (zone : Bor Zone). P zone.now) items → (zone : Zone) → Contains (zones config) zone → P zone
    each_zone P items config is holds zone has =
        All-contains P (zones config) zone (subst (All P) is (All-map P (λ (z : Bor Zone). z.now) items holds)) has

    -- each origin and owner is passed
    passed_name : (name : Labels) → Contains (origins_and_owners whole) name → IsPassed names outside name
    passed_name name has =
        elim (Contains-append_cases (map (λ (z : Zone). z.origin) (zones whole)) (map (λ (r : Rr). r.owner) (records whole)) name has) [
          | inl origin ↦ (
              let (zone, among, is) = from_map (λ (z : Zone). z.origin) (zones whole) name origin in
              subst (IsPassed names outside) is (in_zone zone among zone.origin (has_first zone.origin (map (λ (r : Rr). r.owner) zone.rrs))))
          | inr own ↦ (
              let (rr, among, is) = from_map (λ (r : Rr). r.owner) (records whole) name own in
              let (zone, of_config, of_zone) = from_flat_map (λ (z : Zone). z.rrs) (zones whole) rr among in
              subst (IsPassed names outside) is
              (in_zone zone of_config rr.owner (has_later zone.origin (map (λ (r : Rr). r.owner) zone.rrs) rr.owner (map_has (λ (r : Rr). r.owner) zone.rrs rr of_zone))))
        ]
      where
        in_zone : (zone : Zone) → Contains (zones whole) zone → (one : Labels) → Contains (zone_names zone) one → IsPassed names outside one
        in_zone zone among one there = All-contains (IsPassed names outside) (zone_names zone) one (passed zone among) there

    -- where an origin or owner leaves the held names, there is a name outside beside, that is no longer
    beside : (name : Labels) → Contains (origins_and_owners whole) name → (above : Labels) (label : List ℕ) → LeavesAt (held_by names) name above label
        → (one : HasOutside outside (above ++ label ∷ [])) × (parent one.name ≡ above)
    beside name has above label leaves =
        let one = (passed_name name has).there (above ++ label ∷ []) (leaves_first name above label leaves) in
        (one, one.beside ∙ parent_is above label)

    -- what is told is held, or leaves the held names at one that is told as away
    told_held : (name : Labels) → IsHeldOrAtAway names name → IsHeldOrLeavesAtAway names name
    told_held name told = by (first_outside names name) refl where
      by : (o : Option Labels) → first_outside names name ≡ o → IsHeldOrLeavesAtAway names name
      by None e =
          inl (from_listed (held_by names) name
          (from_not (is_among (held_by names) name) (found_none (is_outside names) (prefixes name) name e (prefixes_have name name ([], append-nil name)))))
      by (Some front) e =
          let at = first_leaves name front e in
          inr (record {
            above = at.above;
            label = at.label;
            leaves = at.leaves;
            told = from_listed names.away (at.above ++ at.label ∷ []) (subst (λ (n : Labels). is_among names.away n ≡ true) at.front_is (told front e));
          })

    -- own names that begin an origin or owner are held
    pub keeps_own : Keeps whole names Own
    keeps_own start among above below is own =
        elim (held_or_not (held_by names) above) [
          | inl held ↦ held
          | inr out ↦ (
              let (front, found, passes) = find_some (λ (n : Labels). is_outside names n && is_own names n) (prefixes start) above
              (prefixes_have start above (below, sym is)) (ap₂ (λ (a b : Bool). a && b) (ap not (not_among (held_by names) above out)) own) in
              absurd ((passed_name start among).own front found))
        ]

    -- no origin or owner leaves the held names at one that is told as away
    pub keeps_away : Keeps whole names Away
    keeps_away above label leaves told =
        true≢false (sym (is_listed names.away (above ++ label ∷ []) told)
        ∙ (passed_name leaves.start leaves.among).away (above ++ label ∷ []) (leaves_first leaves.start above label leaves.leaves))

    module _ (lasting : (zone : Zone) → Contains (zones whole) zone → is_among (held_by names) zone.origin ≡ true
        → All (λ (rr : Rr). IsLasting names (restricted_zone (held_by names) zone) rr.owner) zone.rrs)
        (met : All (λ (name : Labels). is_among (flat_map (λ (zone : Bor Zone). zone_names zone.now) left_zones) name ≡ true) names.held)
        (led : All (λ (zone : Bor Zone). All (IsLed names whole zone.now) zone.now.rrs) left_zones)
        (apart : All (λ (zone : Bor Zone). All (λ (one : Redirection). All (IsApart one) outside) (zone_redirections zone.now)) left_zones) where
      -- each name that is told as held is an origin or owner of what is left
      keeps_met : Keeps whole names Met
      keeps_met name has =
          starts_left name (from_listed (flat_map (λ (zone : Bor Zone). zone_names zone.now) left_zones) name (All-contains (λ (one : Labels). is_among (flat_map (λ (zone : Bor Zone). zone_names zone.now) left_zones) one ≡ true) names.held name met has))
        where
          starts_left : (name : Labels) → Contains (flat_map (λ (zone : Bor Zone). zone_names zone.now) left_zones) name
              → Contains (origins_and_owners (restricted (held_by names) whole)) name
          starts_left name has =
              let left = restricted (held_by names) whole in
              let (zone, among, there) = from_flat_map (λ (z : Bor Zone). zone_names z.now) left_zones name has in
              start_of left zone.now (subst (λ (l : List Zone). Contains l zone.now) of_left (map_has (λ (z : Bor Zone). z.now) left_zones zone among)) name there

      -- what a record that is left leads to
      led_by : (zone : Zone) (rr : Rr) (rdata : Rdata) → HasRecord (restricted (held_by names) whole) zone rr → rr.rdata ≡ rdata
          → LeadsInside names whole zone rr.owner rdata
      led_by zone rr rdata has is =
          subst (LeadsInside names whole zone rr.owner) is
          (All-contains (IsLed names whole zone) zone.rrs rr
          (each_zone (λ (z : Zone). All (IsLed names whole z) z.rrs) left_zones (restricted (held_by names) whole) of_left led zone has.of_config) has.of_zone)

      -- a record below its zone's origin isn't at it
      not_at : (owner origin : Labels) → owner ≢ origin → not (name_eq owner origin) ≡ true
      not_at owner origin differ = by (name_eq owner origin) refl where
        by : (b : Bool) → name_eq owner origin ≡ b → not b ≡ true
        by true e = absurd (differ ((name_eq_decides owner origin).0 e))
        by false e = refl

      -- the redirections that are left
      of_left_redirection : (redirection : Redirection) → Contains (redirections_of (restricted (held_by names) whole)) redirection
          → (zone : Zone) × (rr : Rr) × HasRecord (restricted (held_by names) whole) zone rr × Contains (redirection_of rr.owner rr.rdata) redirection
      of_left_redirection redirection has =
          let left = restricted (held_by names) whole in
          let (rr, among, is) = from_flat_map (λ (r : Rr). redirection_of r.owner r.rdata) (records left) redirection has in
          let (zone, of_config, of_zone) = from_flat_map (λ (z : Zone). z.rrs) (zones left) rr among in
          (zone, rr, record { of_config = of_config; of_zone = of_zone }, is)

      -- each held name is a base name of what is left
      pub held_based : (name : Labels) → Contains (held_by names) name → Contains (ground_of (restricted (held_by names) whole)).names name
      held_based = met_there names.held whole keeps_met

      keeps_exists : Keeps whole names Exists
      keeps_exists zone rr has origin above label leaves =
          subst (λ (n : Labels). exists_in (restricted_zone (held_by names) zone) n ≡ true) (parent_is above label)
          (All-contains (λ (r : Rr). IsLasting names (restricted_zone (held_by names) zone) r.owner) zone.rrs rr
          (lasting zone has.of_config (is_listed (held_by names) zone.origin origin)) has.of_zone
          (above ++ label ∷ []) (leaves_first rr.owner above label leaves))

      keeps_apart : Keeps whole names Apart
      keeps_apart above label starts redirection left =
          let (one, below) = beside starts.start starts.among above label starts.leaves in
          let (zone, rr, stands, is) = of_left_redirection redirection left in
          subst (λ (n : Labels). (is_prefix redirection.owner n ≡ false) × (is_prefix redirection.target n ≡ false)) below
          (All-contains (IsApart redirection) outside one.name
          (All-contains (λ (r : Redirection). All (IsApart r) outside) (zone_redirections zone) redirection
          (each_zone (λ (z : Zone). All (λ (r : Redirection). All (IsApart r) outside) (zone_redirections z)) left_zones (restricted (held_by names) whole) of_left apart zone stands.of_config)
          (flat_map_has (λ (r : Rr). redirection_of r.owner r.rdata) zone.rrs rr redirection stands.of_zone is)) one.there)

      keeps_referral : Keeps whole names Referral
      keeps_referral ns referral =
          told_held ns (led_by referral.zone referral.rr (Ns ns) referral.left referral.is
          (and_from (not (name_eq referral.rr.owner referral.zone.origin)) _ (not_at referral.rr.owner referral.zone.origin referral.below)
          (elim referral.matters [
            | inl inside ↦ or_left (is_prefix referral.rr.owner ns) _ inside
            | inr (configured, top) ↦ or_right (is_prefix referral.rr.owner ns) _ (and_from (is_configured whole ns) _ configured (ap not top))
          ])))

      module _ (longer : All (HasShorter (ground_of (restricted (held_by names) whole))) outside) where
        keeps_short : Keeps whole names Short
        keeps_short above label starts =
            let (one, below) = beside starts.start starts.among above label starts.leaves in
            let shorter = All-contains (HasShorter (ground_of (restricted (held_by names) whole))) outside one.name longer one.there in
            let stands = shorter.represents in
            record {
              label = stands.label;
              is_label = stands.first.is_label;
              shorter = omega (
                arith,
                shorter.shorter,
                one.no_longer,
                ap wire_octets stands.extends,
                ap (λ (n : Labels). wire_octets (n ++ stands.label ∷ [])) below,
                octets_with_label above stands.label,
                octets_with_label above label,
              );
              unnamed = subst (λ (n : Labels). IsNamed (ground_of (restricted (held_by names) whole)) (n ++ stands.label ∷ []) → ⊥) below stands.first.unnamed;
            }

        -- all rules are kept
        pub keeps_all : (rule : PartRule) → Keeps whole names rule
        keeps_all Met = keeps_met
        keeps_all Exists = keeps_exists
        keeps_all Short = keeps_short
        keeps_all Alias = λ zone rr target has is. told_held target (led_by zone rr (Cname target) has is)
        keeps_all Redirects = λ redirection left.
            let (zone, rr, stands, is) = of_left_redirection redirection left in
            told_held redirection.target (led_by zone rr (Dname redirection.target) stands (of_dname rr.owner rr.rdata redirection is))
        keeps_all Apart = keeps_apart
        keeps_all Referral = keeps_referral
        keeps_all Own = keeps_own
        keeps_all Away = keeps_away
