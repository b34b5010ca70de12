-- The conditions of a part as a pass over the records can check them: of a name that isn't held it counts only where it
-- leaves the held names.
use Rattle.std.specs.Prelude.{◌≡◌, ◌≢◌, ◌⊎◌, ℕ, true, false, List, [], ◌∷◌, ◌++◌, length, Contains}
use Rattle.dns_data.specs.Name.{Labels, is_prefix}
use Rattle.dns_data.specs.declared.rdata.Rdata.TheVariants.{Ns, Cname}
use Rattle.dns_data.specs.declared.rdata.Rr.{Rr}
use Rattle.net_model.specs.declared.config.Config.{Config}
use Rattle.net_model.specs.declared.config.Zone.{Zone}
use Rattle.net_model.specs.Nearest.{is_configured, is_top}
use Rattle.net_model.specs.Reading.{Redirection, redirections_of, origins_and_owners, ground_of}
use Rattle.net_model.specs.Zone.{exists_in}
use Rattle.part_laws.specs.Part.{restricted_zone, restricted, HasRecord, HasShorterUnnamed}

-- the name leaves the held names here: this prefix of it is held, and the one with one label more isn't
pub record LeavesAt (names : List Labels) (name above : Labels) (label : List ℕ) : Type 0 where
  pub below : Labels
  pub is : name ≡ above ++ label ∷ below
  pub held : Contains names above
  pub not_held : Contains names (above ++ label ∷ []) → ⊥

-- the name leaves the held names at what is no base name of the configuration
pub record LeavesAway (config : Config) (names : List Labels) (name : Labels) : Type 0 where
  pub above : Labels
  pub label : List ℕ
  pub leaves : LeavesAt names name above label
  pub away : Contains (ground_of config).names (above ++ label ∷ []) → ⊥

-- the name is held, or leaves the held names at what is no base name of the configuration
abbrev pub IsHeldOrAway : Config → List Labels → Labels → Type 0
IsHeldOrAway config names name = Contains names name ⊎ LeavesAway config names name

-- The conditions of a part, met by each record. The first four are those of a part.
pub record MeetsEach (config : Config) (names : List Labels) : Type 0 where
  pub root : Contains names []
  pub prefixes : (above below : Labels) → Contains names (above ++ below) → Contains names above
  pub met : (name : Labels) → Contains names name → Contains (ground_of (restricted names config)).names name
  pub within : (zone : Zone) (rr : Rr) → HasRecord config zone rr → is_prefix zone.origin rr.owner ≡ true
  -- where an owner leaves the held names, the name above exists in what is left of its zone, if the origin is held
  pub exist : (zone : Zone) (rr : Rr) → HasRecord config zone rr → Contains names zone.origin
      → (above : Labels) (label : List ℕ) → LeavesAt names rr.owner above label → exists_in (restricted_zone names zone) above ≡ true
  -- where an origin or an owner leaves the held names, its label there has more octets than some label that makes an
  -- unnamed name there
  pub short : (name : Labels) → Contains (origins_and_owners config) name
      → (above : Labels) (label : List ℕ) → LeavesAt names name above label
      → HasShorterUnnamed (ground_of (restricted names config)) above (length label)
  -- and the name above isn't at or below the owner or the target of a redirection that is left
  pub apart : (name : Labels) → Contains (origins_and_owners config) name
      → (above : Labels) (label : List ℕ) → LeavesAt names name above label
      → (redirection : Redirection) → Contains (redirections_of (restricted names config)) redirection
      → (is_prefix redirection.owner above ≡ false) × (is_prefix redirection.target above ≡ false)
  -- the targets of the records that are left are held, or leave the held names at what is no base name: those of aliases,
  -- of redirections, of delegations at or below the zone cut, and of those whose address may have to be learnt
  pub aliases : (zone : Zone) (rr : Rr) (target : Labels) → HasRecord (restricted names config) zone rr → rr.rdata ≡ Cname target
      → IsHeldOrAway config names target
  pub targets : (redirection : Redirection) → Contains (redirections_of (restricted names config)) redirection
      → IsHeldOrAway config names redirection.target
  pub glue : (zone : Zone) (rr : Rr) (ns : Labels) → HasRecord (restricted names config) zone rr → rr.owner ≢ zone.origin
      → rr.rdata ≡ Ns ns → is_prefix rr.owner ns ≡ true → IsHeldOrAway config names ns
  pub learnt : (zone : Zone) (rr : Rr) (ns : Labels) → HasRecord (restricted names config) zone rr → rr.owner ≢ zone.origin
      → rr.rdata ≡ Ns ns → is_configured config ns ≡ true → is_top config ns ≡ false → IsHeldOrAway config names ns
