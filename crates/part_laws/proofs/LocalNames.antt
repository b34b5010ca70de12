-- Names that are local, and the names that a part holds.
use Rattle.std.proofs.Common.{◌≡◌, Bool, true, false, List, [], ◌∷◌, ◌++◌, ◌⊎◌, map, Contains, filter, sym, refl, ap, subst, ◌∙◌, inl, inr, append_assoc, append-nil}
use Rattle.dns_data.specs.Name.{Labels, is_among}
use Rattle.dns_data.specs.declared.rdata.Rr.{Rr}
use Rattle.dns_data.proofs.Membership.{has_first, from_filter, filter_has, from_map, map_has, from_flat_map, flat_map_has}
use Rattle.dns_data.proofs.NameFronts.{Begins}
use Rattle.net_model.specs.declared.config.Config.{Config}
use Rattle.net_model.specs.declared.config.Server.{Server}
use Rattle.net_model.specs.declared.config.Zone.{Zone}
use Rattle.net_model.specs.Reading.{ground_of, origins_and_owners, zones}
use Rattle.net_model.proofs.JoinedNames.{alone_is_own, start_is_base, above_is_base}
use Rattle.net_model.proofs.Naming.{is_listed, from_listed}
use Rattle.net_model.proofs.NearestZones.{origin_of_config, owner_of_config}
use Rattle.part_laws.specs.Part.{restricted_zone, restricted_server, restricted, IsLocal, HasRecord}

-- a name is among these, or it isn't
pub held_or_not : (names : List Labels) (name : Labels) → Contains names name ⊎ (Contains names name → ⊥)
held_or_not names name = by (is_among names name) refl where
  by : (b : Bool) → is_among names name ≡ b → Contains names name ⊎ (Contains names name → ⊥)
  by true e = inl (from_listed names name e)
  by false e = inr (λ has. absurd (cc (is_listed names name has)))

-- ---- base names

-- each origin and owner is a base name
pub start_based : (config : Config) (name : Labels) → Contains (origins_and_owners config) name → Contains (ground_of config).names name
start_based config name has =
    subst (λ ground. Contains ground.names name) (alone_is_own config) (start_is_base (config ∷ []) [] config (has_first config []) name has)

-- the prefixes of a base name are base names
pub above_based : (config : Config) (above below : Labels) → Contains (ground_of config).names (above ++ below) → Contains (ground_of config).names above
above_based config above below has =
    subst (λ ground. Contains ground.names above) (alone_is_own config)
    (above_is_base (config ∷ []) [] above below (subst (λ ground. Contains ground.names (above ++ below)) (sym (alone_is_own config)) has))

-- the origin of a zone is a base name
pub origin_based : (config : Config) (zone : Zone) → Contains (zones config) zone → Contains (ground_of config).names zone.origin
origin_based config zone has = start_based config zone.origin (origin_of_config config zone has)

-- the owner of a record is a base name
pub owner_based : (config : Config) (zone : Zone) (rr : Rr) → Contains (zones config) zone → Contains zone.rrs rr → Contains (ground_of config).names rr.owner
owner_based config zone rr has inside = start_based config rr.owner (owner_of_config config zone rr has inside)

-- ---- local names

module _ (config : Config) (names : List Labels) where
  -- a local name that is a base name of the whole is held
  pub local_held : (name : Labels) → IsLocal config names name → Contains (ground_of config).names name → Contains names name
  local_held name local based = local.held name [] (append-nil name) based

  -- the prefixes of a local name are local
  pub above_local : (above name : Labels) → Begins above name → IsLocal config names name → IsLocal config names above
  above_local above name (below, e) local =
      record {
        held = λ top rest is based.
            local.held top (rest ++ below) (sym (append_assoc top rest below) ∙ ap (λ (x : Labels). x ++ below) is ∙ e) based;
      }

  -- what is left of a zone whose origin is held is a zone of what is left
  pub zone_left : (zone : Zone) → Contains (zones config) zone → Contains names zone.origin
      → Contains (zones (restricted names config)) (restricted_zone names zone)
  zone_left zone has held =
      let (server, among, inside) = from_flat_map (λ (s : Server). s.zones) config.servers zone has in
      flat_map_has (λ (s : Server). s.zones) (map (restricted_server names) config.servers) (restricted_server names server) (restricted_zone names zone)
      (map_has (restricted_server names) config.servers server among)
      (map_has (restricted_zone names) (filter (λ (z : Zone). is_among names z.origin) server.zones) zone
      (filter_has (λ (z : Zone). is_among names z.origin) server.zones zone inside (is_listed names zone.origin held)))

  -- each zone of what is left is what is left of a zone of the whole whose origin is held
  pub from_zone_left : (left : Zone) → Contains (zones (restricted names config)) left
      → (zone : Zone) × Contains (zones config) zone × Contains names zone.origin × (restricted_zone names zone ≡ left)
  from_zone_left left has =
      let (small, among, inside) = from_flat_map (λ (s : Server). s.zones) (map (restricted_server names) config.servers) left has in
      let (server, is_server, same) = from_map (restricted_server names) config.servers small among in
      let there : Contains (restricted_server names server).zones left = subst (λ (s : Server). Contains s.zones left) (sym same) inside in
      let (zone, among_left, is) = from_map (restricted_zone names) (filter (λ (z : Zone). is_among names z.origin) server.zones) left there in
      let of_server = from_filter (λ (z : Zone). is_among names z.origin) server.zones zone among_left in (
        zone,
        flat_map_has (λ (s : Server). s.zones) config.servers server zone is_server of_server.0,
        from_listed names zone.origin of_server.1,
        is,
      )

  -- a record whose owner is held is left in what is left of its zone
  pub record_left : (zone : Zone) (rr : Rr) → Contains (zones config) zone → Contains names zone.origin → Contains zone.rrs rr → Contains names rr.owner
      → HasRecord (restricted names config) (restricted_zone names zone) rr
  record_left zone rr has origin inside owner =
      record {
        of_config = zone_left zone has origin;
        of_zone = filter_has (λ (r : Rr). is_among names r.owner) zone.rrs rr inside (is_listed names rr.owner owner);
      }
