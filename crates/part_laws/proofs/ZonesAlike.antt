-- The zones in which a local name is looked up: what is left of those of the whole.
use Rattle.std.proofs.Common.{◌≡◌, Bool, true, List, reverse, Contains, filter, Option, Some, None, is_some, option_and_then, sym, refl, ap, subst, ◌∙◌}
use Rattle.std.specs.Prelude.{option_map}
use Rattle.std.proofs.lemmas.List.Sorted.{IsPermutation-reverse, IsPermutation-sym, Contains-permutation}
use Rattle.std.proofs.lemmas.Simd.{map-map}
use Rattle.dns_data.specs.Name.{Labels, name_eq, is_among}
use Rattle.dns_data.proofs.NameFronts.{Begins}
use Rattle.dns_data.proofs.Names.{name_eq_decides}
use Rattle.dns_data.proofs.Searches.{find_same, found_there}
use Rattle.net_model.specs.declared.config.Config.{Config}
use Rattle.net_model.specs.declared.config.Server.{Server}
use Rattle.net_model.specs.declared.config.Zone.{Zone}
use Rattle.net_model.specs.Nearest.{server_named, zone_with_origin, nearest, nearest_of, held_zone, is_configured, server_names}
use Rattle.net_model.specs.Prefix.{prefixes, longest}
use Rattle.net_model.specs.Reading.{zones}
use Rattle.net_model.proofs.Naming.{is_listed}
use Rattle.net_model.proofs.NearestZones.{zone_of_config}
use Rattle.net_model.proofs.Prefixes.{from_prefixes}
use Rattle.part_laws.specs.Part.{restricted_zone, restricted_server, restricted, IsLocal}
use Rattle.part_laws.proofs.Lists.{find_mapped, find_filtered}
use Rattle.part_laws.proofs.LocalNames.{local_held, above_local, origin_based}

-- whether there is an item doesn't depend on a map
pub is_some-mapped : {A B : Type 0} (f : A → B) (o : Option A) → is_some (option_map f o) ≡ is_some o
is_some-mapped f None = refl
is_some-mapped f (Some x) = refl

-- a longest prefix is a prefix that passes the test
pub longest_there : (test : Labels → Bool) (name above : Labels) → longest test name ≡ Some above → Begins above name × (test above ≡ true)
longest_there test name above e =
    let there = found_there test (reverse (prefixes name)) above e in (
      from_prefixes name above
          (Contains-permutation (reverse (prefixes name)) (prefixes name) above
          (IsPermutation-sym (prefixes name) (reverse (prefixes name)) (IsPermutation-reverse (prefixes name))) there.0),
      there.1,
    )

-- tests that agree on the prefixes of a name have one longest prefix
pub longest_same : (one other : Labels → Bool) (name : Labels) → ((above : Labels) → Begins above name → one above ≡ other above)
    → longest one name ≡ longest other name
longest_same one other name agree =
    find_same one other (reverse (prefixes name))
    (λ above has. agree above (from_prefixes name above
    (Contains-permutation (reverse (prefixes name)) (prefixes name) above
    (IsPermutation-sym (prefixes name) (reverse (prefixes name)) (IsPermutation-reverse (prefixes name))) has)))

module _ (config : Config) (names : List Labels) where
  -- the server of a name is what is left of it
  server_alike : (name : Labels) → server_named (restricted names config) name ≡ option_map (restricted_server names) (server_named config name)
  server_alike name = find_mapped (restricted_server names) (λ (s : Server). name_eq s.name name) config.servers

  -- the same servers are configured
  pub configured_alike : (name : Labels) → is_configured (restricted names config) name ≡ is_configured config name
  configured_alike name = ap is_some (server_alike name) ∙ is_some-mapped (restricted_server names) (server_named config name)

  -- they have the same names
  pub names_alike : server_names (restricted names config) ≡ server_names config
  names_alike = map-map (λ (s : Server). s.name) (restricted_server names) config.servers

  module _ (server : Server) (among : Contains config.servers server) where
    -- the zone with a local origin is what is left of it
    zone_alike : (origin : Labels) → IsLocal config names origin
        → zone_with_origin (restricted_server names server) origin ≡ option_map (restricted_zone names) (zone_with_origin server origin)
    zone_alike origin local =
        find_mapped (restricted_zone names) (λ (z : Zone). name_eq z.origin origin) (filter (λ (z : Zone). is_among names z.origin) server.zones)
        ∙ ap (option_map (restricted_zone names))
        (find_filtered (λ (z : Zone). name_eq z.origin origin) (λ (z : Zone). is_among names z.origin) server.zones held)
      where
        held : (zone : Zone) → Contains server.zones zone → name_eq zone.origin origin ≡ true → is_among names zone.origin ≡ true
        held zone has same =
            let is : zone.origin ≡ origin = (name_eq_decides zone.origin origin).0 same in
            is_listed names zone.origin
            (local_held config names zone.origin (subst (IsLocal config names) (sym is) local) (origin_based config zone (zone_of_config config server zone among has)))

    -- the nearest zone for a local name is what is left of it
    nearest_alike : (name : Labels) → IsLocal config names name
        → nearest (restricted_server names server) name ≡ option_map (restricted_zone names) (nearest server name)
    nearest_alike name local =
        ap (option_and_then (zone_with_origin (restricted_server names server)))
        (longest_same (λ above. is_some (zone_with_origin (restricted_server names server) above)) (λ above. is_some (zone_with_origin server above)) name
        (λ above begins. ap is_some (zone_alike above (above_local config names above name begins local))
        ∙ is_some-mapped (restricted_zone names) (zone_with_origin server above)))
        ∙ by (longest (λ above. is_some (zone_with_origin server above)) name) refl
      where
        by : (found : Option Labels) → longest (λ above. is_some (zone_with_origin server above)) name ≡ found
            → option_and_then (zone_with_origin (restricted_server names server)) found
            ≡ option_map (restricted_zone names) (option_and_then (zone_with_origin server) found)
        by None is = refl
        by (Some above) is =
            zone_alike above (above_local config names above name (longest_there (λ above. is_some (zone_with_origin server above)) name above is).0 local)

  -- so is the nearest zone of the server of a name
  pub nearest_of_alike : (server name : Labels) → IsLocal config names name
      → nearest_of (restricted names config) server name ≡ option_map (restricted_zone names) (nearest_of config server name)
  nearest_of_alike server name local =
      ap (option_and_then (λ holder. nearest holder name)) (server_alike server) ∙ by (server_named config server) refl
    where
      by : (holder : Option Server) → server_named config server ≡ holder
          → option_and_then (λ holder. nearest holder name) (option_map (restricted_server names) holder)
          ≡ option_map (restricted_zone names) (option_and_then (λ holder. nearest holder name) holder)
      by None is = refl
      by (Some holder) is = nearest_alike holder (found_there (λ (s : Server). name_eq s.name server) config.servers holder is).0 name local

  -- and the zone with a local origin that the server of a name holds
  pub held_zone_alike : (server origin : Labels) → IsLocal config names origin
      → held_zone (restricted names config) server origin ≡ option_map (restricted_zone names) (held_zone config server origin)
  held_zone_alike server origin local =
      ap (option_and_then (λ holder. zone_with_origin holder origin)) (server_alike server) ∙ by (server_named config server) refl
    where
      by : (holder : Option Server) → server_named config server ≡ holder
          → option_and_then (λ holder. zone_with_origin holder origin) (option_map (restricted_server names) holder)
          ≡ option_map (restricted_zone names) (option_and_then (λ holder. zone_with_origin holder origin) holder)
      by None is = refl
      by (Some holder) is = zone_alike holder (found_there (λ (s : Server). name_eq s.name server) config.servers holder is).0 origin local

  -- the zone that the server of a name holds is one of the configuration
  pub held_zone_there : (server origin : Labels) (zone : Zone) → held_zone config server origin ≡ Some zone → Contains (zones config) zone × (zone.origin ≡ origin)
  held_zone_there server origin zone e = by (server_named config server) refl e where
    by : (holder : Option Server) → server_named config server ≡ holder → option_and_then (λ holder. zone_with_origin holder origin) holder ≡ Some zone
        → Contains (zones config) zone × (zone.origin ≡ origin)
    by None is e = cc
    by (Some holder) is e =
        let there = found_there (λ (s : Server). name_eq s.name server) config.servers holder is in
        let inside = found_there (λ (z : Zone). name_eq z.origin origin) holder.zones zone e in
        (zone_of_config config holder zone there.0 inside.0, (name_eq_decides zone.origin origin).0 inside.1)
