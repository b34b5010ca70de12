-- What is left of a zone finds for local names what the zone finds, and that is local.
use Rattle.std.proofs.Common.{◌≡◌, ◌<◌, Bool, true, false, List, [], ◌∷◌, length, drop, Contains, Option, Some, None, sym, refl, ap, subst, ◌∙◌}
use Rattle.std.specs.Prelude.{◌&&◌, nat_lt, nat_le, if◌then◌else◌}
use Rattle.std.proofs.lemmas.Bool.{and_parts, ltb-true}
use Rattle.dns_data.specs.Name.{Labels, swap, wire_octets}
use Rattle.dns_data.specs.RrType.{type_eq}
use Rattle.dns_data.specs.declared.rdata.Rdata.{Rdata}
use Rattle.dns_data.specs.declared.rdata.Rdata.TheVariants.{Dname}
use Rattle.dns_data.specs.declared.rdata.Rr.{Rr}
use Rattle.dns_data.specs.declared.rr_type.RrType.{RrType}
use Rattle.dns_data.specs.declared.rr_type.RrType.TheVariants as types
use Rattle.dns_data.proofs.Membership.{has_first, flat_map_has}
use Rattle.dns_data.proofs.NameFronts.{Begins}
use Rattle.dns_data.proofs.Searches.{found_there}
use Rattle.net_model.specs.declared.config.Config.{Config}
use Rattle.net_model.specs.declared.config.Zone.{Zone}
use Rattle.net_model.specs.declared.found.Found.{Found}
use Rattle.net_model.specs.declared.found.Found.TheVariants as found_as
use Rattle.net_model.specs.Lookup.{zone_cut, dname_owner, first_name, closest_encloser, source_of_synthesis, Deciding, ByCut, ByRedirection, ByRecords, ByNothing, by_dname, synthesized, shorter_decides, decided, deciding, answer_of, aliased, redirected, answered, found}
use Rattle.net_model.specs.Order.{in_order}
use Rattle.net_model.specs.Prefix.{prefixes}
use Rattle.net_model.specs.Reading.{zones, records, redirection_of, redirections_of}
use Rattle.net_model.specs.Zone.{owns, data_at, exists_in, targets_at, data_cmp}
use Rattle.net_model.proofs.NearestZones.{record_of_config}
use Rattle.net_model.proofs.Prefixes.{from_prefixes}
use Rattle.part_laws.specs.Part.{restricted_zone, restricted, IsLocal, HasRecord, IsPart}
use Rattle.part_laws.proofs.LocalNames.{local_held, above_local, owner_based, record_left}
use Rattle.part_laws.proofs.LookupsAlike.{source_local, deciding_alike, targets_alike, ns_names_alike, data_alike}
use Rattle.part_laws.proofs.Targets.{HasTarget, from_targets, from_ns_names, first_there, cname_data, dname_data}
use Rattle.part_laws.proofs.ZonesAlike.{longest_there}

-- a DNAME record of the configuration makes a redirection
redirection_there : (config : Config) (zone : Zone) (rr : Rr) (target : Labels) → HasRecord config zone rr → rr.rdata ≡ Dname target
    → Contains (redirections_of config) (record { owner = rr.owner; target = target })
redirection_there config zone rr target has is =
    flat_map_has (λ (r : Rr). redirection_of r.owner r.rdata) (records config) rr (record { owner = rr.owner; target = target })
    (record_of_config config zone rr has.of_config has.of_zone)
    (subst (λ (rdata : Rdata). Contains (redirection_of rr.owner rdata) (record { owner = rr.owner; target = target })) (sym is)
    (has_first (record { owner = rr.owner; target = target }) []))

module _ (config : Config) (names : List Labels) (part : IsPart config names) (zone : Zone) (has : Contains (zones config) zone)
    (held : Contains names zone.origin) where
  -- a record at a local owner is left
  pub left_at : (owner : Labels) (rtype : RrType) (target : Labels) → IsLocal config names owner → (t : HasTarget zone owner rtype target)
      → HasRecord (restricted names config) (restricted_zone names zone) t.rr
  left_at owner rtype target local t =
      record_left config names zone t.rr has held t.of_zone
      (local_held config names t.rr.owner (subst (IsLocal config names) (sym t.owner_is) local) (owner_based config zone t.rr has t.of_zone))

  -- what decides at a name is local
  pub record CutLocal (cut : Labels) : Type 0 where
    pub local : IsLocal config names cut
    pub below : length zone.origin < length cut

  abbrev DecidesLocal : Labels → Deciding → Type 0
  DecidesLocal name (ByCut cut) = CutLocal cut
  DecidesLocal name (ByRedirection owner target) = IsLocal config names owner × Begins owner name × (target ≡ first_name (targets_at zone owner types.Dname))
  DecidesLocal name (ByRecords owner) = IsLocal config names owner
  DecidesLocal name ByNothing = Unit {0}

  module _ (name : Labels) (local : IsLocal config names name) where
    cut_local : (cut : Labels) → zone_cut zone name ≡ Some cut → CutLocal cut
    cut_local cut is =
        let there = found_there (λ above. nat_lt (length zone.origin) (length above) && owns zone above types.Ns) (prefixes name) cut is in
        record {
          local = above_local config names cut name (from_prefixes name cut there.0) local;
          below = ltb-true (length zone.origin) (length cut) (and_parts (nat_lt (length zone.origin) (length cut)) (owns zone cut types.Ns) there.1).0;
        }

    owner_local : (owner : Labels) → dname_owner zone name ≡ Some owner → DecidesLocal name (by_dname zone owner)
    owner_local owner is =
        let there = found_there (λ above. nat_le (length zone.origin) (length above) && nat_lt (length above) (length name) && owns zone above types.Dname) (prefixes name) owner is in
        let begins = from_prefixes name owner there.0 in
        (above_local config names owner name begins local, begins, refl)

    source_decides : (encloser : Option Labels) → closest_encloser zone name ≡ encloser → DecidesLocal name (synthesized zone encloser)
    source_decides None is = tt
    source_decides (Some encloser) is = by (exists_in zone (source_of_synthesis encloser)) where
      by : (b : Bool) → DecidesLocal name (if b then ByRecords (source_of_synthesis encloser) else ByNothing)
      by true =
          source_local config names part encloser (above_local config names encloser name (longest_there (exists_in zone) name encloser is).0 local)
      by false = tt

    either_decides : (cut owner : Option Labels) → zone_cut zone name ≡ cut → dname_owner zone name ≡ owner
        → DecidesLocal name (decided zone name (shorter_decides zone cut owner))
    either_decides (Some cut) None is also = cut_local cut is
    either_decides (Some cut) (Some owner) is also = by (nat_lt (length owner) (length cut)) where
      by : (b : Bool) → DecidesLocal name (if b then by_dname zone owner else ByCut cut)
      by true = owner_local owner also
      by false = cut_local cut is
    either_decides None (Some owner) is also = owner_local owner also
    either_decides None None is also = by (exists_in zone name) where
      by : (b : Bool) → DecidesLocal name (if b then ByRecords name else synthesized zone (closest_encloser zone name))
      by true = local
      by false = source_decides (closest_encloser zone name) refl

    decides_local : DecidesLocal name (deciding zone name)
    decides_local = either_decides (zone_cut zone name) (dname_owner zone name) refl refl

    answered_alike : (rtype : RrType) (d : Deciding) → DecidesLocal name d → answered (restricted_zone names zone) name rtype d ≡ answered zone name rtype d
    answered_alike rtype (ByCut cut) is =
        ap (λ (all : List Labels). found_as.Referral cut all) (ns_names_alike config names part zone has cut is.local)
    answered_alike rtype (ByRedirection owner target) is = refl
    answered_alike rtype (ByRecords owner) is =
        ap (λ (targets : List Labels). aliased (restricted_zone names zone) owner rtype (if type_eq rtype types.Cname then None else first_name targets))
        (targets_alike config names part zone has owner types.Cname is)
        ∙ by (if type_eq rtype types.Cname then None else first_name (targets_at zone owner types.Cname))
      where
        by : (target : Option Labels) → aliased (restricted_zone names zone) owner rtype target ≡ aliased zone owner rtype target
        by (Some target) = refl
        by None = ap (λ (all : List Rdata). answer_of (in_order data_cmp all)) (data_alike config names part zone has owner rtype is)
    answered_alike rtype ByNothing is = refl

    -- what is left of the zone finds for a local name what the zone finds
    pub found_alike : (rtype : RrType) → found (restricted_zone names zone) name rtype ≡ found zone name rtype
    found_alike rtype =
        ap (answered (restricted_zone names zone) name rtype) (deciding_alike config names part zone has held name local)
        ∙ answered_alike rtype (deciding zone name) decides_local

  -- ---- what is found is local

  -- a referral's zone cut is local and below the origin, and each of its name servers is the target of a record there; a
  -- rewrite leads to a local name
  pub record RefersLocal (cut : Labels) (all : List Labels) : Type 0 where
    pub at_cut : CutLocal cut
    pub listed : (ns : Labels) → Contains all ns → HasTarget zone cut types.Ns ns

  -- what is found leads to local names
  abbrev pub FoundLocal : Found → Type 0
  FoundLocal (found_as.Referral cut all) = RefersLocal cut all
  FoundLocal (found_as.Rewrite by_dname owner to) = IsLocal config names to
  FoundLocal other = Unit {0}

  answer_local : (all : List Rdata) → FoundLocal (answer_of all)
  answer_local [] = tt
  answer_local (rdata ∷ all) = tt

  alias_local : (owner : Labels) (rtype : RrType) → IsLocal config names owner → (target : Option Labels)
      → ((to : Labels) → target ≡ Some to → Contains (targets_at zone owner types.Cname) to) → FoundLocal (aliased zone owner rtype target)
  alias_local owner rtype local (Some target) there =
      let t = from_targets zone owner types.Cname target (there target refl) in
      part.aliases (restricted_zone names zone) t.rr target (left_at owner types.Cname target local t) (cname_data t.rr.rdata target t.of_type t.has_it)
  alias_local owner rtype local None there = answer_local (in_order data_cmp (data_at zone owner rtype))

  redirected_local : (name owner : Labels) → IsLocal config names owner → (target : Option Labels)
      → ((to : Labels) → target ≡ Some to → Contains (targets_at zone owner types.Dname) to) → FoundLocal (redirected name owner target)
  redirected_local name owner local None there = tt
  redirected_local name owner local (Some target) there = by (nat_le (wire_octets (swap name owner target)) 255) where
    by : (b : Bool) → FoundLocal (if b then found_as.Rewrite true owner (swap name owner target) else found_as.TooLong owner)
    by true =
        let t = from_targets zone owner types.Dname target (there target refl) in
        part.targets (record { owner = t.rr.owner; target = target }) (drop (length owner) name)
        (redirection_there (restricted names config) (restricted_zone names zone) t.rr target (left_at owner types.Dname target local t)
        (dname_data t.rr.rdata target t.of_type t.has_it))
    by false = tt

  answered_local : (name : Labels) (rtype : RrType) (d : Deciding) → DecidesLocal name d → FoundLocal (answered zone name rtype d)
  answered_local name rtype (ByCut cut) is = record { at_cut = is; listed = λ ns among. from_ns_names zone cut ns among }
  answered_local name rtype (ByRedirection owner target) (local, begins, is) =
      redirected_local name owner local target (λ to e. first_there (targets_at zone owner types.Dname) to (sym is ∙ e))
  answered_local name rtype (ByRecords owner) local =
      by (type_eq rtype types.Cname)
    where
      by : (b : Bool) → FoundLocal (aliased zone owner rtype (if b then None else first_name (targets_at zone owner types.Cname)))
      by true = alias_local owner rtype local None (λ to e. absurd (cc))
      by false = alias_local owner rtype local (first_name (targets_at zone owner types.Cname)) (λ to e. first_there (targets_at zone owner types.Cname) to e)
  answered_local name rtype ByNothing is = tt

  -- what is found for a local name is local
  pub found_local : (name : Labels) (rtype : RrType) → IsLocal config names name → FoundLocal (found zone name rtype)
  found_local name rtype local = answered_local name rtype (deciding zone name) (decides_local name local)
