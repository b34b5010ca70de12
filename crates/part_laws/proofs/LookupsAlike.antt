-- What is left of a zone says of local names what the zone says.
use Rattle.std.proofs.Common.{◌≡◌, ℕ, Bool, true, ◌⊎◌, List, [], ◌∷◌, ◌++◌, map, length, codes, Contains, Option, Some, None, sym, refl, ap, ap₂, subst, ◌∙◌, inl, inr, arith, append-nil, append_assoc}
use Rattle.std.specs.Prelude.{◌&&◌, ◌||◌, nat_lt, nat_le, if◌then◌else◌}
use Rattle.std.specs.List.{filter_map}
use Rattle.std.proofs.lemmas.Bool.{and_parts, or_cases, or_left, or_right, and_from}
use Rattle.dns_data.specs.Name.{Labels, name_eq, is_among, is_prefix}
use Rattle.dns_data.specs.Rdata.{has_type}
use Rattle.dns_data.specs.declared.rdata.Rdata.{Rdata}
use Rattle.dns_data.specs.declared.rdata.Rr.{Rr}
use Rattle.dns_data.specs.declared.rr_type.RrType.{RrType}
use Rattle.dns_data.specs.declared.rr_type.RrType.TheVariants as types
use Rattle.dns_data.proofs.Membership.{from_filter}
use Rattle.dns_data.proofs.NameFronts.{Begins, is_prefix_tells, two_fronts}
use Rattle.dns_data.proofs.Names.{name_eq_decides}
use Rattle.dns_data.proofs.Searches.{find_same, found_there, from_any, any_has, same_truth}
use Rattle.net_model.specs.declared.config.Config.{Config}
use Rattle.net_model.specs.declared.config.Zone.{Zone}
use Rattle.net_model.specs.Lookup.{zone_cut, dname_owner, first_name, closest_encloser, source_of_synthesis, Deciding, ByCut, ByRedirection, ByRecords, ByNothing, by_dname, synthesized, shorter_decides, decided, deciding}
use Rattle.net_model.specs.Order.{in_order}
use Rattle.net_model.specs.Prefix.{prefixes}
use Rattle.net_model.specs.Reading.{zones, ground_of}
use Rattle.net_model.specs.Zone.{is_of, owns, data_at, exists_in, target_of, targets_at, ns_names, data_cmp, has_address, addresses}
use Rattle.net_model.proofs.Naming.{is_listed}
use Rattle.net_model.proofs.Prefixes.{from_prefixes}
use Rattle.part_laws.specs.Part.{restricted_zone, restricted, IsLocal, HasShorterUnnamed, IsPart}
use Rattle.part_laws.proofs.Lists.{filter_filtered, any_filtered}
use Rattle.part_laws.proofs.LocalNames.{held_or_not, local_held, above_local, owner_based, above_based}
use Rattle.part_laws.proofs.ZonesAlike.{longest_same, longest_there}

-- a front of a name with one label more is that name or a front of the shorter one
pub front_with_label : (top rest above : Labels) (label : List ℕ) → top ++ rest ≡ above ++ label ∷ [] → (top ≡ above ++ label ∷ []) ⊎ Begins top above
front_with_label top rest above label e = by (two_fronts top rest above (label ∷ []) e) where
  one : (below : Labels) → below ++ rest ≡ label ∷ [] → above ++ below ≡ top → (top ≡ above ++ label ∷ []) ⊎ Begins top above
  one [] is same = inr ([], append-nil top ∙ sym same ∙ append-nil above)
  one (x ∷ []) is same = let first : x ≡ label = cc in inl (sym same ∙ ap (λ (l : List ℕ). above ++ l ∷ []) first)
  one (x ∷ y ∷ below) is same = absurd cc

  cancel : (a b c : Labels) → a ++ b ≡ a ++ c → b ≡ c
  cancel [] b c e = e
  cancel (x ∷ a) b c e = cancel a b c (cc)

  by : ((below : Labels) × (top ++ below ≡ above)) ⊎ ((below : Labels) × (above ++ below ≡ top)) → (top ≡ above ++ label ∷ []) ⊎ Begins top above
  by (inl begins) = inr begins
  by (inr (below, same)) =
      one below
      (cancel above (below ++ rest) (label ∷ []) (sym (append_assoc above below rest) ∙ ap (λ (x : Labels). x ++ rest) same ∙ e)) same

module _ (config : Config) (names : List Labels) (part : IsPart config names) where
  -- a label no longer than any unnamed one makes a local name below a local name
  pub label_local : (above : Labels) (label : List ℕ) → IsLocal config names above
      → (HasShorterUnnamed (ground_of (restricted names config)) above (length label) → ⊥) → IsLocal config names (above ++ label ∷ [])
  label_local above label local none =
      record {
        held = λ top rest e based.
            elim (front_with_label top rest above label e) [
              | inl whole ↦ subst (Contains names) (sym whole) (itself (subst (Contains (ground_of config).names) whole based))
              | inr begins ↦ local_held config names top (above_local config names top above begins local) based
            ];
      }
    where
      itself : Contains (ground_of config).names (above ++ label ∷ []) → Contains names (above ++ label ∷ [])
      itself based =
          elim (held_or_not names (above ++ label ∷ [])) [
            | inl held ↦ held
            | inr out ↦ absurd (none (part.short above label (local_held config names above local (above_based config above (label ∷ []) based)) based out))
          ]

  -- the source of synthesis below a local name is local: no label has less octets than the asterisk's one
  pub source_local : (encloser : Labels) → IsLocal config names encloser → IsLocal config names (source_of_synthesis encloser)
  source_local encloser local =
      label_local encloser (codes "*") local (λ shorter.
      let empty : length shorter.label ≡ 0 = omega (arith, shorter.shorter) in
      absurd (omega (arith, shorter.is_label.not_empty)))

  module _ (zone : Zone) (has : Contains (zones config) zone) where
    -- the zone with those of its records whose owners are held
    abbrev left : Zone
    left = restricted_zone names zone

    -- a record at a local owner is held
    owner_held : (name : Labels) → IsLocal config names name → (rr : Rr) → Contains zone.rrs rr → rr.owner ≡ name → is_among names rr.owner ≡ true
    owner_held name local rr inside is =
        is_listed names rr.owner
        (local_held config names rr.owner (subst (IsLocal config names) (sym is) local) (owner_based config zone rr has inside))

    of_local : (name : Labels) → IsLocal config names name → (rtype : RrType) (rr : Rr) → Contains zone.rrs rr → is_of name rtype rr ≡ true
        → is_among names rr.owner ≡ true
    of_local name local rtype rr inside is =
        owner_held name local rr inside ((name_eq_decides rr.owner name).0 (and_parts (name_eq rr.owner name) (has_type rtype rr.rdata) is).0)

    -- a local name owns the same records
    owns_alike : (name : Labels) (rtype : RrType) → IsLocal config names name → owns left name rtype ≡ owns zone name rtype
    owns_alike name rtype local = any_filtered (is_of name rtype) (λ (rr : Rr). is_among names rr.owner) zone.rrs (of_local name local rtype)

    -- it owns the same data of a type
    pub data_alike : (name : Labels) (rtype : RrType) → IsLocal config names name → data_at left name rtype ≡ data_at zone name rtype
    data_alike name rtype local =
        ap (map (λ (rr : Rr). rr.rdata))
        (filter_filtered (is_of name rtype) (λ (rr : Rr). is_among names rr.owner) zone.rrs (of_local name local rtype))

    -- its records of a type have the same targets
    pub targets_alike : (name : Labels) (rtype : RrType) → IsLocal config names name → targets_at left name rtype ≡ targets_at zone name rtype
    targets_alike name rtype local = ap (filter_map target_of) (data_alike name rtype local)

    -- it has the same name servers
    pub ns_names_alike : (name : Labels) → IsLocal config names name → ns_names left name ≡ ns_names zone name
    ns_names_alike name local = ap (in_order _) (targets_alike name types.Ns local)

    -- it owns the same addresses
    pub has_address_alike : (name : Labels) → IsLocal config names name → has_address left name ≡ has_address zone name
    has_address_alike name local = ap₂ (λ (a b : Bool). a || b) (owns_alike name types.A local) (owns_alike name types.Aaaa local)

    -- with the same data
    pub addresses_alike : (name : Labels) → IsLocal config names name → addresses left name ≡ addresses zone name
    addresses_alike name local = ap₂ (λ (a b : List Rdata). in_order data_cmp (a ++ b)) (data_alike name types.A local) (data_alike name types.Aaaa local)

    module _ (held : Contains names zone.origin) where
      -- a local name exists in both or in neither
      exists_alike : (name : Labels) → IsLocal config names name → exists_in left name ≡ exists_in zone name
      exists_alike name local = same_truth (exists_in left name) (exists_in zone name) there back where
        there : exists_in left name ≡ true → exists_in zone name ≡ true
        there e =
            elim (or_cases (name_eq name zone.origin) _ e) [
              | inl is ↦ or_left (name_eq name zone.origin) _ is
              | inr owned ↦ (
                  let parts = and_parts (is_prefix zone.origin name) _ owned in
                  let (rr, among_left, begins) = from_any (λ (rr : Rr). is_prefix name rr.owner) left.rrs parts.1 in
                  or_right (name_eq name zone.origin) _
                  (and_from _ _ parts.0
                  (any_has (λ (rr : Rr). is_prefix name rr.owner) zone.rrs rr (from_filter (λ (r : Rr). is_among names r.owner) zone.rrs rr among_left).0 begins)))
            ]

        back : exists_in zone name ≡ true → exists_in left name ≡ true
        back e =
            elim (or_cases (name_eq name zone.origin) _ e) [
              | inl is ↦ or_left (name_eq name zone.origin) _ is
              | inr owned ↦ (
                  let parts = and_parts (is_prefix zone.origin name) _ owned in
                  let (rr, inside, begins) = from_any (λ (rr : Rr). is_prefix name rr.owner) zone.rrs parts.1 in
                  let (below, is) = is_prefix_tells name rr.owner begins in
                  part.exist zone name has held
                  (local_held config names name local
                  (above_based config name below (subst (Contains (ground_of config).names) (sym is) (owner_based config zone rr has inside)))) e)
            ]

      module _ (name : Labels) (local : IsLocal config names name) where
        -- all prefixes are local
        prefix_local : (above : Labels) → Contains (prefixes name) above → IsLocal config names above
        prefix_local above has = above_local config names above name (from_prefixes name above has) local

        zone_cut_alike : zone_cut left name ≡ zone_cut zone name
        zone_cut_alike =
            find_same (λ above. nat_lt (length zone.origin) (length above) && owns left above types.Ns)
            (λ above. nat_lt (length zone.origin) (length above) && owns zone above types.Ns) (prefixes name)
            (λ above has. ap (λ (b : Bool). nat_lt (length zone.origin) (length above) && b) (owns_alike above types.Ns (prefix_local above has)))

        dname_owner_alike : dname_owner left name ≡ dname_owner zone name
        dname_owner_alike =
            find_same (λ above. nat_le (length zone.origin) (length above) && nat_lt (length above) (length name) && owns left above types.Dname)
            (λ above. nat_le (length zone.origin) (length above) && nat_lt (length above) (length name) && owns zone above types.Dname) (prefixes name)
            (λ above has. ap (λ (b : Bool). nat_le (length zone.origin) (length above) && nat_lt (length above) (length name) && b)
            (owns_alike above types.Dname (prefix_local above has)))

        encloser_alike : closest_encloser left name ≡ closest_encloser zone name
        encloser_alike =
            longest_same (exists_in left) (exists_in zone) name (λ above begins. exists_alike above (above_local config names above name begins local))

        synthesized_alike : (encloser : Option Labels) → closest_encloser zone name ≡ encloser → synthesized left encloser ≡ synthesized zone encloser
        synthesized_alike None is = refl
        synthesized_alike (Some encloser) is =
            ap (λ (b : Bool). if b then ByRecords (source_of_synthesis encloser) else ByNothing)
            (exists_alike (source_of_synthesis encloser)
            (source_local encloser (above_local config names encloser name (longest_there (exists_in zone) name encloser is).0 local)))

        by_dname_alike : (owner : Labels) → dname_owner zone name ≡ Some owner → by_dname left owner ≡ by_dname zone owner
        by_dname_alike owner is =
            ap (λ (targets : List Labels). ByRedirection owner (first_name targets))
            (targets_alike owner types.Dname (prefix_local owner (found_there _ (prefixes name) owner is).0))

        shorter_alike : (cut owner : Option Labels) → dname_owner zone name ≡ owner → shorter_decides left cut owner ≡ shorter_decides zone cut owner
        shorter_alike (Some cut) None is = refl
        shorter_alike (Some cut) (Some owner) is =
            ap (λ (d : Deciding). Some (if nat_lt (length owner) (length cut) then d else ByCut cut)) (by_dname_alike owner is)
        shorter_alike None (Some owner) is = ap (λ (d : Deciding). Some d) (by_dname_alike owner is)
        shorter_alike None None is = refl

        decided_alike : (above : Option Deciding) → decided left name above ≡ decided zone name above
        decided_alike (Some above) = refl
        decided_alike None =
            ap₂ (λ (b : Bool) (d : Deciding). if b then ByRecords name else d) (exists_alike name local)
            (ap (synthesized left) encloser_alike ∙ synthesized_alike (closest_encloser zone name) refl)

        -- the same decides at a local name
        pub deciding_alike : deciding left name ≡ deciding zone name
        deciding_alike =
            ap₂ (λ (cut owner : Option Labels). decided left name (shorter_decides left cut owner)) zone_cut_alike dname_owner_alike
            ∙ ap (decided left name) (shorter_alike (zone_cut zone name) (dname_owner zone name) refl)
            ∙ decided_alike (shorter_decides zone (zone_cut zone name) (dname_owner zone name))
