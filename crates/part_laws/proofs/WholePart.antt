-- All base names of a configuration whose records are at or below their zones' origins make a part: the whole.
use Rattle.std.proofs.Common.{◌≡◌, true, List, [], ◌++◌, map, flat_map, Contains, sym, subst, inl, inr}
use Rattle.std.proofs.lemmas.Bool.{and_parts, or_cases, or_left}
use Rattle.std.proofs.lemmas.List.Elements.{Contains-append_cases}
use Rattle.dns_data.specs.Name.{Labels, name_eq, is_among, is_prefix}
use Rattle.dns_data.specs.declared.rdata.Rr.{Rr}
use Rattle.dns_data.proofs.Membership.{has_first, from_map, from_flat_map, filter_has}
use Rattle.dns_data.proofs.Searches.{from_any}
use Rattle.net_model.specs.declared.config.Config.{Config}
use Rattle.net_model.specs.declared.config.Zone.{Zone}
use Rattle.net_model.specs.Prefix.{prefixes}
use Rattle.net_model.specs.Reading.{zones, records, origins_and_owners, ground_of}
use Rattle.net_model.specs.Zone.{exists_in}
use Rattle.net_model.proofs.Descent.{owner_below_exists}
use Rattle.net_model.proofs.Naming.{is_listed}
use Rattle.net_model.proofs.NearestZones.{origin_of_config, owner_of_config}
use Rattle.part_laws.specs.Part.{restricted_zone, restricted, IsLocal, HasRecord, IsPart}
use Rattle.part_laws.proofs.LocalNames.{start_based, above_based, origin_based, owner_based, zone_left, record_left}
use Rattle.part_laws.proofs.NamesAlike.{from_based}

module _ (config : Config) (within : (zone : Zone) (rr : Rr) → HasRecord config zone rr → is_prefix zone.origin rr.owner ≡ true) where
  -- all base names
  abbrev base : List Labels
  base = (ground_of config).names

  all_local : (name : Labels) → IsLocal config base name
  all_local name = record { held = λ above below e based. based }

  -- each origin and owner is left
  start_left : (start : Labels) → Contains (origins_and_owners config) start → Contains (origins_and_owners (restricted base config)) start
  start_left start has =
      elim (Contains-append_cases (map (λ (z : Zone). z.origin) (zones config)) (map (λ (r : Rr). r.owner) (records config)) start has) [
        | inl origin ↦ (
            let (zone, among, is) = from_map (λ (z : Zone). z.origin) (zones config) start origin in
            subst (Contains (origins_and_owners (restricted base config))) is
            (origin_of_config (restricted base config) (restricted_zone base zone) (zone_left config base zone among (origin_based config zone among))))
        | inr owner ↦ (
            let (rr, among, is) = from_map (λ (r : Rr). r.owner) (records config) start owner in
            let (zone, of_config, of_zone) = from_flat_map (λ (z : Zone). z.rrs) (zones config) rr among in
            let stands = record_left config base zone rr of_config (origin_based config zone of_config) of_zone (owner_based config zone rr of_config of_zone) in
            subst (Contains (origins_and_owners (restricted base config))) is
            (owner_of_config (restricted base config) (restricted_zone base zone) rr stands.of_config stands.of_zone))
      ]

  all_met : (name : Labels) → Contains base name → Contains (ground_of (restricted base config)).names name
  all_met name based =
      elim (from_based config name based) [
        | inl root ↦ subst (Contains (ground_of (restricted base config)).names) root
            (has_first [] (flat_map prefixes (origins_and_owners (restricted base config))))
        | inr (start, among, (below, e)) ↦ above_based (restricted base config) name below
            (subst (Contains (ground_of (restricted base config)).names) (sym e) (start_based (restricted base config) start (start_left start among)))
      ]

  all_exist : (zone : Zone) (name : Labels) → Contains (zones config) zone → exists_in zone name ≡ true → exists_in (restricted_zone base zone) name ≡ true
  all_exist zone name has exists =
      elim (or_cases (name_eq name zone.origin) _ exists) [
        | inl is ↦ or_left (name_eq name zone.origin) _ is
        | inr owned ↦ (
            let parts = and_parts (is_prefix zone.origin name) _ owned in
            let (rr, inside, begins) = from_any (λ (rr : Rr). is_prefix name rr.owner) zone.rrs parts.1 in
            owner_below_exists (restricted_zone base zone) name rr parts.0
            (filter_has (λ (r : Rr). is_among base r.owner) zone.rrs rr inside (is_listed base rr.owner (owner_based config zone rr has inside))) begins)
      ]

  -- the whole is a part
  pub whole_part : IsPart config (ground_of config).names
  whole_part =
      record {
        root = has_first [] (flat_map prefixes (origins_and_owners config));
        prefixes = above_based config;
        met = all_met;
        within = within;
        exist = λ zone name has origin held exists. all_exist zone name has exists;
        short = λ above label held based out. absurd (out based);
        aliases = λ zone rr target has is. all_local target;
        owners = λ redirection below has. all_local (redirection.owner ++ below);
        targets = λ redirection below has. all_local (redirection.target ++ below);
        glue = λ zone rr ns has apart is inside. all_local ns;
        learnt = λ zone rr ns has apart is configured no_top. all_local ns;
      }
