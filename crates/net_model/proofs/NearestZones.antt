-- The zones, records and owners of a configuration, and the zone in which a server looks a name up: it is one of them, and
-- its origin is at or above the name.
use Rattle.std.proofs.Common.{◌≡◌, ◌∙◌, map, reverse, Contains, Option, Some, None, is_some, option_and_then, sym, refl, ap, subst}
use Rattle.std.proofs.lemmas.List.Sorted.{IsPermutation-reverse, IsPermutation-sym, Contains-permutation}
use Rattle.std.proofs.lemmas.List.Elements.{Contains-append_left, Contains-append_right}
use Rattle.dns_data.specs.Name.{Labels, name_eq}
use Rattle.dns_data.specs.declared.rdata.Rr.{Rr}
use Rattle.dns_data.proofs.Membership.{map_has, flat_map_has}
use Rattle.dns_data.proofs.NameFronts.{Begins}
use Rattle.dns_data.proofs.Names.{name_eq_decides}
use Rattle.dns_data.proofs.Searches.{found_there}
use Rattle.net_model.specs.declared.config.Config.{Config}
use Rattle.net_model.specs.declared.config.Server.{Server}
use Rattle.net_model.specs.declared.config.Zone.{Zone}
use Rattle.net_model.specs.Nearest.{server_named, zone_with_origin, held_zone, nearest, nearest_of}
use Rattle.net_model.specs.Prefix.{prefixes, longest}
use Rattle.net_model.specs.Reading.{zones, records, origins_and_owners}
use Rattle.net_model.proofs.Prefixes.{from_prefixes}

-- ---- names of a configuration

-- a zone of a configured server is one of the configuration
pub zone_of_config : (config : Config) (server : Server) (zone : Zone) → Contains config.servers server → Contains server.zones zone → Contains (zones config) zone
zone_of_config config server zone has inside = flat_map_has (λ (s : Server). s.zones) config.servers server zone has inside

-- the origin of a zone of the configuration is among its origins and owners
pub origin_of_config : (config : Config) (zone : Zone) → Contains (zones config) zone → Contains (origins_and_owners config) zone.origin
origin_of_config config zone has =
    Contains-append_left (map (λ (z : Zone). z.origin) (zones config)) (map (λ (rr : Rr). rr.owner) (records config)) zone.origin
    (map_has (λ (z : Zone). z.origin) (zones config) zone has)

-- a zone's record is one of the configuration
pub record_of_config : (config : Config) (zone : Zone) (rr : Rr) → Contains (zones config) zone → Contains zone.rrs rr → Contains (records config) rr
record_of_config config zone rr has inside = flat_map_has (λ (z : Zone). z.rrs) (zones config) zone rr has inside

-- the owner of a record of a zone of the configuration is among its origins and owners
pub owner_of_config : (config : Config) (zone : Zone) (rr : Rr) → Contains (zones config) zone → Contains zone.rrs rr → Contains (origins_and_owners config) rr.owner
owner_of_config config zone rr has inside =
    Contains-append_right (map (λ (z : Zone). z.origin) (zones config)) (map (λ (rr : Rr). rr.owner) (records config)) rr.owner
    (map_has (λ (rr : Rr). rr.owner) (records config) rr (record_of_config config zone rr has inside))

-- ---- the zone in which a server looks a name up

-- the origin that a server's zone is found by is its own
holds_origin : (server : Server) (origin : Labels) (zone : Zone) → zone_with_origin server origin ≡ Some zone → Contains server.zones zone × (zone.origin ≡ origin)
holds_origin server origin zone e =
    let there = found_there (λ (z : Zone). name_eq z.origin origin) server.zones zone e in
    (there.0, (name_eq_decides zone.origin origin).0 there.1)

-- a server's nearest zone is one of its zones, at or above the name
nearest_holds : (server : Server) (name : Labels) (zone : Zone) → nearest server name ≡ Some zone → Contains server.zones zone × Begins zone.origin name
nearest_holds server name zone e = by (longest (λ above. is_some (zone_with_origin server above)) name) refl e where
  by : (found : Option Labels) → longest (λ above. is_some (zone_with_origin server above)) name ≡ found
      → option_and_then (zone_with_origin server) found ≡ Some zone → Contains server.zones zone × Begins zone.origin name
  by None is e = cc
  by (Some origin) is e =
      let there = found_there (λ above. is_some (zone_with_origin server above)) (reverse (prefixes name)) origin is in
      let prefix : Contains (prefixes name) origin =
      Contains-permutation (reverse (prefixes name)) (prefixes name) origin
      (IsPermutation-sym (prefixes name) (reverse (prefixes name)) (IsPermutation-reverse (prefixes name))) there.0 in
      let holds = holds_origin server origin zone e in
      (holds.0, subst (λ (o : Labels). Begins o name) (sym holds.1) (from_prefixes name origin prefix))

-- the nearest zone of the server of this name is a zone of the configuration, at or above the name that is looked up
pub nearest_tells : (config : Config) (server name : Labels) (zone : Zone) → nearest_of config server name ≡ Some zone → Contains (zones config) zone × Begins zone.origin name
nearest_tells config server name zone e = by (server_named config server) refl e where
  by : (holder : Option Server) → server_named config server ≡ holder → option_and_then (λ holder. nearest holder name) holder ≡ Some zone
      → Contains (zones config) zone × Begins zone.origin name
  by None is e = cc
  by (Some holder) is e =
      let there = found_there (λ (s : Server). name_eq s.name server) config.servers holder is in
      let holds = nearest_holds holder name zone e in
      (zone_of_config config holder zone there.0 holds.0, holds.1)

held_from : (holder : Server) (zone : Zone) (origin : Option Labels) → option_and_then (zone_with_origin holder) origin ≡ Some zone
    → zone_with_origin holder zone.origin ≡ Some zone
held_from holder zone None e = cc
held_from holder zone (Some origin) e = ap (zone_with_origin holder) (holds_origin holder origin zone e).1 ∙ e

-- the zone in which a server looks a name up is the one that it holds for the zone's origin
pub nearest_is_held : (config : Config) (server name : Labels) (zone : Zone) → nearest_of config server name ≡ Some zone → held_zone config server zone.origin ≡ Some zone
nearest_is_held config server name zone e = by (server_named config server) e where
  by : (holder : Option Server) → option_and_then (λ holder. nearest holder name) holder ≡ Some zone → option_and_then (λ holder. zone_with_origin holder zone.origin) holder ≡ Some zone
  by None e = cc
  by (Some holder) e = held_from holder zone (longest (λ above. is_some (zone_with_origin holder above)) name) e
