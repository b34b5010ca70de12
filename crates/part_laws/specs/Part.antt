-- A part of a configuration, the whole: what is left of it where some names are held, which names are local there, and when
-- these walk, and show faults, in what is left as in the whole.
use Rattle.std.specs.Prelude.{◌≡◌, ◌≢◌, ℕ, ◌<◌, true, false, List, [], ◌∷◌, ◌++◌, length, map, Contains}
use Rattle.std.specs.List.{filter, flat_map}
use Rattle.dns_data.specs.Label.{IsLabel}
use Rattle.dns_data.specs.Name.{Labels, is_among, is_prefix}
use Rattle.dns_data.specs.declared.rdata.Rdata.TheVariants.{Ns, Cname}
use Rattle.dns_data.specs.declared.rdata.Rr.{Rr}
use Rattle.net_model.specs.declared.config.Config.{Config}
use Rattle.net_model.specs.declared.config.Server.{Server}
use Rattle.net_model.specs.declared.config.Zone.{Zone}
use Rattle.net_model.specs.Nearest.{is_configured, is_top}
use Rattle.net_model.specs.Prefix.{prefixes}
use Rattle.net_model.specs.Reading.{Ground, Redirection, IsNamed, zones, redirections_of, ground_of}
use Rattle.net_model.specs.Zone.{exists_in}

-- the root, and all prefixes of some names
abbrev pub with_prefixes : List Labels → List Labels
with_prefixes names = [] ∷ flat_map prefixes names

-- the zone with those of its records whose owners are held
abbrev pub restricted_zone : List Labels → Zone → Zone
restricted_zone names zone = record { origin = zone.origin; rrs = filter (λ rr. is_among names rr.owner) zone.rrs }

-- the server with those of its zones whose origins are held, restricted
abbrev pub restricted_server : List Labels → Server → Server
restricted_server names server =
    record { name = server.name; zones = map (restricted_zone names) (filter (λ zone. is_among names zone.origin) server.zones) }

-- What is left of a configuration: all top servers, and all servers with those zones and records whose names are held. A
-- server may be left without a zone.
abbrev pub restricted : List Labels → Config → Config
restricted names config = record { tops = config.tops; servers = map (restricted_server names) config.servers }

-- The name is local: each of its prefixes that is a base name of the whole is held. Any other name is foreign.
pub record IsLocal (config : Config) (names : List Labels) (name : Labels) : Type 0 where
  pub held : (above below : Labels) → above ++ below ≡ name → Contains (ground_of config).names above → Contains names above

-- some zone of the configuration has the record
pub record HasRecord (config : Config) (zone : Zone) (rr : Rr) : Type 0 where
  pub of_config : Contains (zones config) zone
  pub of_zone : Contains zone.rrs rr

-- a label of fewer octets makes an unnamed name directly below this one
pub record HasShorterUnnamed (ground : Ground) (above : Labels) (octets : ℕ) : Type 0 where
  pub label : List ℕ
  pub is_label : IsLabel label
  pub shorter : length label < octets
  pub unnamed : IsNamed ground (above ++ label ∷ []) → ⊥

-- What is left where these names are held is a part: all that the walks of local names ask for is left.
pub record IsPart (config : Config) (names : List Labels) : Type 0 where
  -- the root is held, with each name its prefixes
  pub root : Contains names []
  pub prefixes : (above below : Labels) → Contains names (above ++ below) → Contains names above
  -- each held name is a base name of what is left
  pub met : (name : Labels) → Contains names name → Contains (ground_of (restricted names config)).names name
  -- each record of the whole is at or below its zone's origin
  pub within : (zone : Zone) (rr : Rr) → HasRecord config zone rr → is_prefix zone.origin rr.owner ≡ true
  -- a held name that exists in a zone exists in what is left of the zone
  pub exist : (zone : Zone) (name : Labels) → Contains (zones config) zone → Contains names zone.origin → Contains names name
      → exists_in zone name ≡ true → exists_in (restricted_zone names zone) name ≡ true
  -- the last label of a base name of the whole that isn't held, directly below a held name, has more octets than some label
  -- that makes an unnamed name there
  pub short : (above : Labels) (label : List ℕ) → Contains names above → Contains (ground_of config).names (above ++ label ∷ [])
      → (Contains names (above ++ label ∷ []) → ⊥) → HasShorterUnnamed (ground_of (restricted names config)) above (length label)
  -- the target of each alias that is left is local
  pub aliases : (zone : Zone) (rr : Rr) (target : Labels) → HasRecord (restricted names config) zone rr → rr.rdata ≡ Cname target
      → IsLocal config names target
  -- all names at or below the owner, and all at or below the target, of each redirection that is left are local
  pub owners : (redirection : Redirection) (below : Labels) → Contains (redirections_of (restricted names config)) redirection
      → IsLocal config names (redirection.owner ++ below)
  pub targets : (redirection : Redirection) (below : Labels) → Contains (redirections_of (restricted names config)) redirection
      → IsLocal config names (redirection.target ++ below)
  -- the name server of each delegation that is left is local if it is at or below the zone cut, so that it may have glue
  -- there
  pub glue : (zone : Zone) (rr : Rr) (ns : Labels) → HasRecord (restricted names config) zone rr → rr.owner ≢ zone.origin
      → rr.rdata ≡ Ns ns → is_prefix rr.owner ns ≡ true → IsLocal config names ns
  -- it is local too if it is configured and no top server, so that its address may have to be learnt
  pub learnt : (zone : Zone) (rr : Rr) (ns : Labels) → HasRecord (restricted names config) zone rr → rr.owner ≢ zone.origin
      → rr.rdata ≡ Ns ns → is_configured config ns ≡ true → is_top config ns ≡ false → IsLocal config names ns

-- two lists of names of servers that may be followed, one in what is left and one in the whole, have the same local names
pub record HaveSameLocalNames (config : Config) (names of_part of_whole : List Labels) : Type 0 where
  pub same : (name : Labels) → IsLocal config names name → is_among of_part name ≡ is_among of_whole name
