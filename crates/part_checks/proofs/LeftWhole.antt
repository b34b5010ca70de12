-- What is checked of what is left says of the whole whose zones were taken.
use Rattle.std.proofs.Common.{◌≡◌, ◌∙◌, Bool, true, false, Bor, List, [], ◌∷◌, map, flat_map, filter, All, Contains, Some, None, cond, refl, sym, ap, subst, inl, inr}
use Rattle.std.specs.Prelude.{not, ◌&&◌, ◌||◌}
use Rattle.std.proofs.lemmas.List.Elements.{All-contains, All-weaker}
use Rattle.dns_data.specs.Name.{Labels, is_among, is_prefix, name_eq}
use Rattle.dns_data.specs.declared.rdata.Rdata.{Rdata}
use Rattle.dns_data.specs.declared.rdata.Rdata.TheVariants.{Ns, Cname, Dname}
use Rattle.dns_data.specs.declared.rdata.Rr.{Rr}
use Rattle.dns_data.proofs.Membership.{all_from_contains, from_flat_map, has_first, map_has}
use Rattle.net_model.specs.Nearest.{is_top}
use Rattle.net_model.specs.Configured.{KeepsWithin}
use Rattle.net_model.specs.Prefix.{prefixes}
use Rattle.net_model.specs.Reading.{Redirection, zones, origins_and_owners, ground_of}
use Rattle.net_model.specs.declared.config.Config.{Config}
use Rattle.net_model.specs.declared.config.Server.{Server}
use Rattle.net_model.specs.declared.config.Zone.{Zone}
use Rattle.net_model.proofs.JoinedNames.{base_is_front}
use Rattle.net_model.proofs.Naming.{from_listed}
use Rattle.config_load.specs.Taken.{server_left}
use Rattle.base_names.specs.Base.{zone_redirections}
use Rattle.part_laws.specs.Part.{restricted, restricted_server, restricted_zone, with_prefixes, HasShorterUnnamed}
use Rattle.part_laws.proofs.LocalNames.{above_based, start_based}
use Rattle.part_laws.proofs.ZonesAlike.{configured_alike}
use Rattle.part_names.specs.declared.names.PartNames.{PartNames}
use Rattle.part_checks.specs.Claims.{last_octets, rule_of}
use Rattle.part_checks.specs.Outside.{parent, zone_names, IsApart}
use Rattle.part_checks.specs.Parts.{held_by}
use Rattle.part_checks.specs.Rules.{Keeps}
use Rattle.part_checks.specs.Short.{HasShorter}
use Rattle.part_checks.specs.Taking.{with_held_zones, FitsZone, IsLeftWhole, IsSeen, IsTakenWhole, Taking}
use Rattle.part_checks.specs.Targets.{IsLed, LeadsInside, may_matter}
use Rattle.part_checks.specs.declared.fault.PartRule.{PartRule}
use Rattle.part_checks.specs.declared.fault.PartRule.TheVariants.{Met, Apart, Short}
use Rattle.part_checks.proofs.Claimed.{all_apart, all_led, all_met, all_short, fits_zone}
use Rattle.part_checks.proofs.Meets.{keeps_all, start_of}

-- ---- names of zones that are base names

module _ (config : Config) (items : List (Bor Zone)) (are : map (λ (zone : Bor Zone). zone.now) items ≡ zones config) where
  -- an origin or owner of one of the zones
  pub met_start : (name : Labels) → Contains (flat_map (λ (zone : Bor Zone). zone_names zone.now) items) name → Contains (origins_and_owners config) name
  met_start name has =
      let (zone, among, there) = from_flat_map (λ (z : Bor Zone). zone_names z.now) items name has in
      start_of config zone.now (subst (λ (l : List Zone). Contains l zone.now) are (map_has (λ (z : Bor Zone). z.now) items zone among)) name there

  -- if names are origins or owners of the zones, they and their prefixes are base names
  pub based_names : (held : List Labels) → All (λ (name : Labels). is_among (flat_map (λ (zone : Bor Zone). zone_names zone.now) items) name ≡ true) held
      → (name : Labels) → Contains (with_prefixes held) name → Contains (ground_of config).names name
  based_names held met name has =
      elim (base_is_front [] held name has) [
        | inl root ↦ subst (Contains (ground_of config).names) root (has_first [] (flat_map prefixes (origins_and_owners config)))
        | inr (start, among, (below, e)) ↦
            above_based config name below (subst (Contains (ground_of config).names) (sym e)
            (start_based config start (met_start start (from_listed (flat_map (λ (zone : Bor Zone). zone_names zone.now) items) start
            (All-contains (λ (one : Labels). is_among (flat_map (λ (zone : Bor Zone). zone_names zone.now) items) one ≡ true) held start met among)))))
      ]

-- ---- where records lead

module _ (names : PartNames) (whole : Config) (zone : Zone) where
  -- a delegation matters in what is left as in the whole
  matters_alike : (owner ns : Labels) → may_matter (restricted (held_by names) whole) zone owner ns ≡ may_matter whole zone owner ns
  matters_alike owner ns = ap (λ (b : Bool). not (name_eq owner zone.origin) && (is_prefix owner ns || (b && not (is_top whole ns)))) (configured_alike whole (held_by names) ns)

  inside_alike : (owner : Labels) (rdata : Rdata) → LeadsInside names (restricted (held_by names) whole) zone owner rdata → LeadsInside names whole zone owner rdata
  inside_alike owner (Cname target) leads = leads
  inside_alike owner (Dname target) leads = leads
  inside_alike owner (Ns target) leads = λ matters. leads (matters_alike owner target ∙ matters)
  inside_alike owner rdata leads = tt

  inside_back : (owner : Labels) (rdata : Rdata) → LeadsInside names whole zone owner rdata → LeadsInside names (restricted (held_by names) whole) zone owner rdata
  inside_back owner (Cname target) leads = leads
  inside_back owner (Dname target) leads = leads
  inside_back owner (Ns target) leads = λ matters. leads (sym (matters_alike owner target) ∙ matters)
  inside_back owner rdata leads = tt

module _ (names : PartNames) (outside : List Labels) (whole left : Config) (is : IsLeftWhole names outside whole left) (items : List (Bor Zone))
    (are : map (λ (zone : Bor Zone). zone.now) items ≡ zones left) where
  -- what is told of all records for what is left is told of them for the whole
  led_whole : All (λ (zone : Bor Zone). All (IsLed names left zone.now) zone.now.rrs) items → All (λ (zone : Bor Zone). All (IsLed names whole zone.now) zone.now.rrs) items
  led_whole =
      All-weaker (λ (zone : Bor Zone). All (IsLed names left zone.now) zone.now.rrs) (λ (zone : Bor Zone). All (IsLed names whole zone.now) zone.now.rrs) (λ zone.
      All-weaker (IsLed names left zone.now) (IsLed names whole zone.now) (λ rr leads.
      inside_alike names whole zone.now rr.owner rr.rdata (subst (λ (config : Config). IsLed names config zone.now rr) is.is leads)) zone.now.rrs) items

  -- names of which all is checked keep the rules
  pub kept_all : All (λ (name : Labels). is_among (flat_map (λ (zone : Bor Zone). zone_names zone.now) items) name ≡ true) names.held
      → All (λ (zone : Bor Zone). All (IsLed names left zone.now) zone.now.rrs) items
      → All (λ (zone : Bor Zone). All (λ (one : Redirection). All (IsApart one) outside) (zone_redirections zone.now)) items
      → All (HasShorter (ground_of left)) outside → (rule : PartRule) → Keeps whole names rule
  kept_all met led apart longer =
      keeps_all names whole items outside (are ∙ ap zones is.is) (λ zone has. (is.seen zone has).passed) (λ zone has. (is.seen zone has).lasting) met (led_whole led) apart
      (subst (λ (config : Config). All (HasShorter (ground_of config)) outside) is.is longer)

  module _ (rule : PartRule) (keeps : Keeps whole names rule) where
    -- and what the checks claim by a rule follows from it
    pub met_claimed : All (λ (name : Labels). Met ≡ rule → is_among (flat_map (λ (zone : Bor Zone). zone_names zone.now) items) name ≡ true) names.held
    met_claimed = all_met names whole rule keeps items (are ∙ ap zones is.is)

    pub led_claimed : All (λ (zone : Bor Zone). All (λ (rr : Rr). rule_of rr.rdata ≡ rule → IsLed names left zone.now rr) zone.now.rrs) items
    led_claimed =
        All-weaker (λ (zone : Bor Zone). All (λ (rr : Rr). rule_of rr.rdata ≡ rule → IsLed names whole zone.now rr) zone.now.rrs)
        (λ (zone : Bor Zone). All (λ (rr : Rr). rule_of rr.rdata ≡ rule → IsLed names left zone.now rr) zone.now.rrs) (λ zone.
        All-weaker (λ (rr : Rr). rule_of rr.rdata ≡ rule → IsLed names whole zone.now rr) (λ (rr : Rr). rule_of rr.rdata ≡ rule → IsLed names left zone.now rr) (λ rr leads same.
        subst (λ (config : Config). IsLed names config zone.now rr) (sym is.is) (inside_back names whole zone.now rr.owner rr.rdata (leads same))) zone.now.rrs) items
        (all_led names whole rule keeps items (are ∙ ap zones is.is))

    pub apart_claimed : All (λ (zone : Bor Zone). All (λ (one : Redirection). All (λ (name : Labels). Apart ≡ rule → IsApart one name) outside) (zone_redirections zone.now)) items
    apart_claimed = all_apart names whole rule keeps items (are ∙ ap zones is.is) outside is.leaves

    pub short_claimed : All (λ (name : Labels). Short ≡ rule → HasShorterUnnamed (ground_of left) (parent name) (last_octets name)) outside
    short_claimed =
        subst (λ (config : Config). All (λ (name : Labels). Short ≡ rule → HasShorterUnnamed (ground_of config) (parent name) (last_octets name)) outside) (sym is.is)
        (all_short names whole rule keeps items (are ∙ ap zones is.is) outside is.leaves)

-- ---- what is left

module _ (names : List Labels) where
  zones_left : (all : List Zone) → filter (λ (zone : Zone). is_among names zone.origin) (map (restricted_zone names) all) ≡ map (restricted_zone names) (filter (λ (zone : Zone). is_among names zone.origin) all)
  zones_left [] = refl
  zones_left (zone ∷ all) = by (is_among names zone.origin) (zones_left all) where
    by : (b : Bool) → filter (λ (zone : Zone). is_among names zone.origin) (map (restricted_zone names) all) ≡ map (restricted_zone names) (filter (λ (zone : Zone). is_among names zone.origin) all)
        → cond b (restricted_zone names zone ∷ filter (λ (zone : Zone). is_among names zone.origin) (map (restricted_zone names) all)) (filter (λ (zone : Zone). is_among names zone.origin) (map (restricted_zone names) all))
        ≡ map (restricted_zone names) (cond b (zone ∷ filter (λ (zone : Zone). is_among names zone.origin) all) (filter (λ (zone : Zone). is_among names zone.origin) all))
    by true rest = ap (λ (more : List Zone). restricted_zone names zone ∷ more) rest
    by false rest = rest

  -- what is left of servers where the zones go whose origins aren't held
  pub servers_left : (servers : List Server) → map (with_held_zones names) (map (server_left (restricted_zone names)) servers) ≡ map (restricted_server names) servers
  servers_left [] = refl
  servers_left (server ∷ servers) = λ i. record { name = server.name; zones = zones_left server.zones i } ∷ servers_left servers i

-- where no rule is broken, this is left of the whole whose zones were taken
pub is_left_whole : (taking : Taking) (whole taken left : Config) → taking.broken ≡ None → IsTakenWhole taking whole taken
    → left ≡ record { tops = taken.tops; servers = map (with_held_zones (held_by taking.names)) taken.servers } → IsLeftWhole taking.names taking.outside whole left
is_left_whole taking whole taken left none is left_is =
    let names = held_by taking.names in
    record {
      is = left_is
          ∙ (ap (λ (config : Config). record { tops = config.tops; servers = map (with_held_zones names) config.servers }) is.is
          ∙ ap (λ (servers : List Server). record { tops = whole.tops; servers = servers }) (servers_left names whole.servers));
      seen = λ zone has. All-contains (IsSeen taking.names taking.outside) is.taken.taken zone (is.taken.took_them.seen none) (is.taken.each zone has);
      leaves = λ name has.
          let (zone, among, leaves) = is.taken.took_them.leaves name has in
          (zone, is.taken.only zone among, leaves);
    }

-- its zones hold no record outside of them
pub within_whole : (taking : Taking) (whole taken : Config) → IsTakenWhole taking whole taken → (zone : Zone) → Contains (zones whole) zone → KeepsWithin zone
within_whole taking whole taken is zone has = All-contains KeepsWithin is.taken.taken zone is.taken.took_them.within (is.taken.each zone has)

-- the rule that is broken doesn't hold
pub rule_broken : (taking : Taking) (whole taken : Config) → IsTakenWhole taking whole taken → (rule : PartRule) (name : Labels) → taking.broken ≡ Some (rule, name)
    → Keeps whole taking.names rule → ⊥
rule_broken taking whole taken is rule name broken keeps =
    is.taken.took_them.refuted rule name broken
    (all_from_contains (FitsZone rule taking.names) is.taken.taken (λ zone has. fits_zone taking.names whole rule keeps zone (is.taken.only zone has)))
