-- What the checks claim follows from the rules of a part.
use Rattle.std.proofs.Common.{◌≡◌, ◌≢◌, ◌∙◌, Bool, true, false, Bor, List, [], ◌∷◌, ◌++◌, length, map, flat_map, All, Contains, Some, sym, ap, subst, inl, inr, arith, append_assoc, refl, ℕ, true≢false}
use Rattle.std.specs.Prelude.{not, ◌&&◌, ◌||◌}
use Rattle.std.proofs.lemmas.Bool.{and_parts, or_cases}
use Rattle.std.proofs.lemmas.List.Elements.{Contains-append_cases}
use Rattle.dns_data.specs.Name.{Labels, is_among, is_prefix, name_eq, wire_octets}
use Rattle.dns_data.specs.declared.rdata.Rdata.{Rdata}
use Rattle.dns_data.specs.declared.rdata.Rdata.TheVariants.{Ns, Cname, Dname}
use Rattle.dns_data.specs.declared.rdata.Rr.{Rr}
use Rattle.dns_data.proofs.Membership.{all_from_contains, has_first, has_later, map_has, from_map, from_flat_map, flat_map_has}
use Rattle.dns_data.proofs.NameFronts.{octets_with_label}
use Rattle.dns_data.proofs.Names.{name_eq_decides}
use Rattle.dns_data.proofs.Searches.{found_there}
use Rattle.net_model.specs.Nearest.{is_configured, is_top}
use Rattle.net_model.specs.Prefix.{prefixes}
use Rattle.net_model.specs.Reading.{Redirection, zones, records, origins_and_owners, redirection_of, ground_of}
use Rattle.net_model.specs.Zone.{exists_in}
use Rattle.net_model.specs.declared.config.Config.{Config}
use Rattle.net_model.specs.declared.config.Zone.{Zone}
use Rattle.net_model.proofs.Naming.{is_listed, from_listed}
use Rattle.net_model.proofs.Prefixes.{from_prefixes}
use Rattle.label_graph.specs.Graphs.{SomeItem}
use Rattle.base_names.specs.Base.{zone_redirections}
use Rattle.part_laws.specs.Part.{restricted, restricted_zone, HasRecord, HasShorterUnnamed}
use Rattle.part_laws.proofs.WithPrefixes.{prefixes_there}
use Rattle.part_names.specs.PartNames.{is_own}
use Rattle.part_names.specs.declared.names.PartNames.{PartNames}
use Rattle.part_checks.specs.Claims.{IsFitName, last_octets, rule_of}
use Rattle.part_checks.specs.Outside.{first_outside, is_outside, parent, zone_names, IsApart, IsLasting, IsHeldOrAtAway, Leaves}
use Rattle.part_checks.specs.Parts.{held_by}
use Rattle.part_checks.specs.Rules.{IsHeldOrLeavesAtAway, Keeps, StartLeaves}
use Rattle.part_checks.specs.Taking.{FitsZone}
use Rattle.part_checks.specs.Targets.{IsLed, LeadsInside}
use Rattle.part_checks.specs.declared.fault.PartRule.{PartRule}
use Rattle.part_checks.specs.declared.fault.PartRule.TheVariants.{Met, Exists, Short, Apart}
use Rattle.part_checks.proofs.Meets.{first_leaves, leaves_first, not_among, parent_is, start_of}

-- a name that a name equals is that name
from_eq : (a b : Labels) → not (name_eq a b) ≡ true → a ≢ b
from_eq a b differ same = true≢false (sym differ ∙ ap not ((name_eq_decides a b).1 same))

-- the octets of the last label
last_is : (above : Labels) (label : List ℕ) (name : Labels) → name ≡ above ++ label ∷ [] → length label ≡ last_octets name
last_is above label name is =
    omega (arith, octets_with_label above label, ap wire_octets is, ap (λ (n : Labels). wire_octets (parent n)) is, ap wire_octets (parent_is above label))

module _ (names : PartNames) (whole : Config) (rule : PartRule) (keeps : Keeps whole names rule) where
  -- where a name of a zone leaves the held ones
  starts_at : (zone : Zone) → Contains (zones whole) zone → (start : Labels) → Contains (zone_names zone) start → (front : Labels) → first_outside names start ≡ Some front
      → (above : Labels) × (label : List ℕ) × (front ≡ above ++ label ∷ []) × StartLeaves whole names above label
  starts_at zone has start there front found =
      let at = first_leaves names start front found in
      (at.above, at.label, at.front_is, record { start = start; among = start_of whole zone has start there; leaves = at.leaves })

  -- a zone of the whole fits
  pub fits_zone : (zone : Zone) → Contains (zones whole) zone → FitsZone rule names zone
  fits_zone zone has = record {
    fit =
        all_from_contains (IsFitName rule names) (zone_names zone) (λ start there. record {
          own = λ same front found.
              let (among, passes) = found_there (λ (above : Labels). is_outside names above && is_own names above) (prefixes start) front found in
              let (out, own) = and_parts (is_outside names front) (is_own names front) passes in
              let (below, is) = from_prefixes start front among in
              let held = subst (Keeps whole names) (sym same) keeps start (start_of whole zone has start there) front below (sym is) own in
              true≢false (sym out ∙ ap not (is_listed (held_by names) front held));
          away = λ same front found.
              let (above, label, is, leaves) = starts_at zone has start there front found in
              not_among names.away front (λ told. subst (Keeps whole names) (sym same) keeps above label leaves (subst (Contains names.away) is told));
        });
    lasting = λ origin.
        all_from_contains (λ (rr : Rr). Exists ≡ rule → IsLasting names (restricted_zone (held_by names) zone) rr.owner) zone.rrs (λ rr there same front found.
        let at = first_leaves names rr.owner front found in
        subst (λ (n : Labels). exists_in (restricted_zone (held_by names) zone) n ≡ true) (sym (ap parent at.front_is ∙ parent_is at.above at.label))
        (subst (Keeps whole names) (sym same) keeps zone rr (record { of_config = has; of_zone = there })
        (from_listed (held_by names) zone.origin origin) at.above at.label at.leaves));
  }

  module _ (left_zones : List (Bor Zone)) (of_left : map (λ (zone : Bor Zone). zone.now) left_zones ≡ zones (restricted (held_by names) whole)) where
    -- a zone of what is left
    in_left : (zone : Bor Zone) → Contains left_zones zone → Contains (zones (restricted (held_by names) whole)) zone.now
    in_left zone has = subst (λ (l : List Zone). Contains l zone.now) of_left (map_has (λ (z : Bor Zone). z.now) left_zones zone has)

    pub all_met : All (λ (name : Labels). Met ≡ rule → is_among (flat_map (λ (zone : Bor Zone). zone_names zone.now) left_zones) name ≡ true) names.held
    all_met =
        all_from_contains (λ (name : Labels). Met ≡ rule → is_among (flat_map (λ (zone : Bor Zone). zone_names zone.now) left_zones) name ≡ true) names.held (λ name has same.
        is_listed (flat_map (λ (zone : Bor Zone). zone_names zone.now) left_zones) name (stands_left name (subst (Keeps whole names) (sym same) keeps name has)))
      where
        behind : (zone : Zone) → Contains (zones (restricted (held_by names) whole)) zone → (zone' : Bor Zone) × Contains left_zones zone' × (zone'.now ≡ zone)
        behind zone has = from_map (λ (z : Bor Zone). z.now) left_zones zone (subst (λ (l : List Zone). Contains l zone) (sym of_left) has)

        stands_left : (name : Labels) → Contains (origins_and_owners (restricted (held_by names) whole)) name → Contains (flat_map (λ (zone : Bor Zone). zone_names zone.now) left_zones) name
        stands_left name has =
            let left = restricted (held_by names) whole in
            elim (Contains-append_cases (map (λ (z : Zone). z.origin) (zones left)) (map (λ (r : Rr). r.owner) (records left)) name has) [
              | inl origin ↦ (
                  let (zone, among, is) = from_map (λ (z : Zone). z.origin) (zones left) name origin in
                  let (item, there, same) = behind zone among in
                  flat_map_has (λ (z : Bor Zone). zone_names z.now) left_zones item name there
                  (subst (Contains (zone_names item.now)) (ap (λ (z : Zone). z.origin) same ∙ is) (has_first item.now.origin (map (λ (r : Rr). r.owner) item.now.rrs))))
              | inr own ↦ (
                  let (rr, among, is) = from_map (λ (r : Rr). r.owner) (records left) name own in
                  let (zone, of_config, of_zone) = from_flat_map (λ (z : Zone). z.rrs) (zones left) rr among in
                  let (item, there, same) = behind zone of_config in
                  flat_map_has (λ (z : Bor Zone). zone_names z.now) left_zones item name there
                  (has_later item.now.origin (map (λ (r : Rr). r.owner) item.now.rrs) name
                  (subst (Contains (map (λ (r : Rr). r.owner) item.now.rrs)) is
                  (map_has (λ (r : Rr). r.owner) item.now.rrs rr (subst (λ (z : Zone). Contains z.rrs rr) (sym same) of_zone)))))
            ]

    -- what is held, or told as away, is told
    told_of : (name : Labels) → IsHeldOrLeavesAtAway names name → IsHeldOrAtAway names name
    told_of name (inl held) front found =
        let at = first_leaves names name front found in
        absurd (at.leaves.not_held (prefixes_there names.held (at.above ++ at.label ∷ []) at.leaves.below
        (subst (Contains (held_by names)) (at.leaves.is ∙ sym (append_assoc at.above (at.label ∷ []) at.leaves.below)) held)))
    told_of name (inr told) front found =
        let same : Some (told.above ++ told.label ∷ []) ≡ Some front = sym (leaves_first names name told.above told.label told.leaves) ∙ found in
        let is : told.above ++ told.label ∷ [] ≡ front = cc in
        subst (λ (n : Labels). is_among names.away n ≡ true) is (is_listed names.away (told.above ++ told.label ∷ []) told.told)

    -- a record that is left leads where its rule says
    led_of : (zone : Zone) (rr : Rr) → HasRecord (restricted (held_by names) whole) zone rr → (rdata : Rdata) → rr.rdata ≡ rdata → rule_of rdata ≡ rule
        → LeadsInside names whole zone rr.owner rdata
    led_of zone rr has (Cname target) is same = told_of target (subst (Keeps whole names) (sym same) keeps zone rr target has is)
    led_of zone rr has (Dname target) is same =
        told_of target (subst (Keeps whole names) (sym same) keeps (record { owner = rr.owner; target = target })
        (flat_map_has (λ (r : Rr). redirection_of r.owner r.rdata) (records (restricted (held_by names) whole)) rr (record { owner = rr.owner; target = target })
        (flat_map_has (λ (z : Zone). z.rrs) (zones (restricted (held_by names) whole)) zone rr has.of_config has.of_zone)
        (subst (λ (d : Rdata). Contains (redirection_of rr.owner d) (record { owner = rr.owner; target = target })) (sym is) (has_first (record { owner = rr.owner; target = target }) []))))
    led_of zone rr has (Ns ns) is same = λ matters.
        let (below, either) = and_parts (not (name_eq rr.owner zone.origin)) (is_prefix rr.owner ns || (is_configured whole ns && not (is_top whole ns))) matters in
        told_of ns (subst (Keeps whole names) (sym same) keeps ns (record {
          zone = zone;
          rr = rr;
          left = has;
          below = from_eq rr.owner zone.origin below;
          is = is;
          matters = elim (or_cases (is_prefix rr.owner ns) (is_configured whole ns && not (is_top whole ns)) either) [
            | inl inside ↦ inl inside
            | inr learnt ↦ (let (configured, top) = and_parts (is_configured whole ns) (not (is_top whole ns)) learnt in inr (configured, from_true (is_top whole ns) top))
          ];
        }))
      where
        from_true : (b : Bool) → not b ≡ true → b ≡ false
        from_true true e = absurd (true≢false (sym e))
        from_true false e = refl
    led_of zone rr has other is same = tt

    pub all_led : All (λ (zone : Bor Zone). All (λ (rr : Rr). rule_of rr.rdata ≡ rule → IsLed names whole zone.now rr) zone.now.rrs) left_zones
    all_led =
        all_from_contains (λ (zone : Bor Zone). All (λ (rr : Rr). rule_of rr.rdata ≡ rule → IsLed names whole zone.now rr) zone.now.rrs) left_zones (λ zone has.
        all_from_contains (λ (rr : Rr). rule_of rr.rdata ≡ rule → IsLed names whole zone.now rr) zone.now.rrs (λ rr there same.
        led_of zone.now rr (record { of_config = in_left zone has; of_zone = there }) rr.rdata refl same))

    module _ (outside : List Labels) (leaves : (name : Labels) → Contains outside name → SomeItem (λ (zone : Zone). Leaves names (zone_names zone) name) (zones whole)) where
      -- where a name outside comes from
      comes_from : (name : Labels) → Contains outside name → (above : Labels) × (label : List ℕ) × (name ≡ above ++ label ∷ []) × StartLeaves whole names above label
      comes_from name has =
          let (zone, among, (start, there, found)) = leaves name has in
          starts_at zone among start there name found

      pub all_apart : All (λ (zone : Bor Zone). All (λ (one : Redirection). All (λ (name : Labels). Apart ≡ rule → IsApart one name) outside) (zone_redirections zone.now)) left_zones
      all_apart =
          all_from_contains (λ (zone : Bor Zone). All (λ (one : Redirection). All (λ (name : Labels). Apart ≡ rule → IsApart one name) outside) (zone_redirections zone.now)) left_zones (λ zone has.
          all_from_contains (λ (one : Redirection). All (λ (name : Labels). Apart ≡ rule → IsApart one name) outside) (zone_redirections zone.now) (λ one there.
          all_from_contains (λ (name : Labels). Apart ≡ rule → IsApart one name) outside (λ name stands same.
          let left = restricted (held_by names) whole in
          let (above, label, is, start) = comes_from name stands in
          let (rr, of_zone, of_data) = from_flat_map (λ (r : Rr). redirection_of r.owner r.rdata) zone.now.rrs one there in
          subst (λ (n : Labels). (is_prefix one.owner n ≡ false) × (is_prefix one.target n ≡ false)) (sym (ap parent is ∙ parent_is above label))
          (subst (Keeps whole names) (sym same) keeps above label start one
          (flat_map_has (λ (r : Rr). redirection_of r.owner r.rdata) (records left) rr one
          (flat_map_has (λ (z : Zone). z.rrs) (zones left) zone.now rr (in_left zone has) of_zone) of_data)))))

      pub all_short : All (λ (name : Labels). Short ≡ rule → HasShorterUnnamed (ground_of (restricted (held_by names) whole)) (parent name) (last_octets name)) outside
      all_short =
          all_from_contains (λ (name : Labels). Short ≡ rule → HasShorterUnnamed (ground_of (restricted (held_by names) whole)) (parent name) (last_octets name)) outside (λ name has same.
          let (above, label, is, start) = comes_from name has in
          subst (λ (n : Labels). HasShorterUnnamed (ground_of (restricted (held_by names) whole)) n (last_octets name)) (sym (ap parent is ∙ parent_is above label))
          (subst (HasShorterUnnamed (ground_of (restricted (held_by names) whole)) above) (last_is above label name is) (subst (Keeps whole names) (sym same) keeps above label start)))
