-- What is known of the zones of a configuration, the whole, that were taken one after the other, and what is left of it.
use Rattle.std.specs.Prelude.{◌≡◌, ◌⊎◌, true, List, [], Option, Some, None, Result, Ok, Err, All, Contains}
use Rattle.std.specs.List.{filter}
use Rattle.dns_data.specs.Name.{Labels, is_among}
use Rattle.label_graph.specs.Graphs.{SomeItem}
use Rattle.net_model.specs.Configured.{KeepsWithin}
use Rattle.net_model.specs.Reading.{zones}
use Rattle.net_model.specs.declared.config.Config.{Config}
use Rattle.net_model.specs.declared.config.Server.{Server}
use Rattle.net_model.specs.declared.config.Zone.{Zone}
use Rattle.config_load.specs.Taken.{IsLeftOf}
use Rattle.part_laws.specs.Part.{restricted, restricted_zone}
use Rattle.part_names.specs.declared.names.PartNames.{PartNames}
use Rattle.part_checks.specs.Claims.{IsFitName}
use Rattle.part_checks.specs.Outside.{HasOutside, IsLasting, IsPassed, Leaves, zone_names}
use Rattle.part_checks.specs.Parts.{held_by}
use Rattle.part_checks.specs.Rules.{Refutes}
use Rattle.part_checks.specs.declared.fault.PartFault.{PartFault}
use Rattle.part_checks.specs.declared.fault.PartFault.TheVariants.{Breaks, NoMemory}
use Rattle.part_checks.specs.declared.fault.PartRule.{PartRule}
use Rattle.part_checks.specs.declared.fault.PartRule.TheVariants.{Exists}

-- the names of a part, names where those of zones leave the held ones, and a rule that is broken, with a name of which it
-- doesn't hold
pub record Taking : Type 0 where
  pub names : PartNames
  pub outside : List Labels
  pub broken : Option (PartRule × Labels)

-- what a pass over a zone asks by a rule: of its names, and, where its origin is held, of what is left of it
pub record FitsZone (rule : PartRule) (names : PartNames) (zone : Zone) : Type 0 where
  pub fit : All (IsFitName rule names) (zone_names zone)
  pub lasting : is_among (held_by names) zone.origin ≡ true
      → All (λ rr. Exists ≡ rule → IsLasting names (restricted_zone (held_by names) zone) rr.owner) zone.rrs

-- what is known of a zone that was taken, where no rule is broken
pub record IsSeen (names : PartNames) (outside : List Labels) (zone : Zone) : Type 0 where
  pub passed : All (IsPassed names outside) (zone_names zone)
  pub lasting : is_among (held_by names) zone.origin ≡ true
      → All (λ rr. IsLasting names (restricted_zone (held_by names) zone) rr.owner) zone.rrs

-- These zones were taken since nothing was known of any. Their records lie at or below their origins. Either no rule is
-- broken, and they are all seen, or the rule that is told doesn't hold of some zone. The names outside are those where
-- names of the zones leave the held ones.
pub record AreSeen (taking : Taking) (taken : List Zone) : Type 0 where
  pub within : All KeepsWithin taken
  pub seen : taking.broken ≡ None → All (IsSeen taking.names taking.outside) taken
  pub leaves : (name : Labels) → Contains taking.outside name → SomeItem (λ zone. Leaves taking.names (zone_names zone) name) taken
  pub refuted : (rule : PartRule) (name : Labels) → taking.broken ≡ Some (rule, name) → All (FitsZone rule taking.names) taken → ⊥

-- Since it was the first of these it took these zones: it has the same names, and if nothing was known at first, what is
-- known now is known of these zones.
abbrev pub HasTaken : Taking → Taking → List Zone → Type 0
HasTaken first taking taken = (taking.names ≡ first.names) × (AreSeen first [] → AreSeen taking taken)

-- What a pass over the names of a zone told: names outside, of which it passed all names of the zone; or a rule by which a
-- name of it doesn't fit.
abbrev pub PassesZone : PartNames → Zone → Result (List Labels) PartFault → Type 0
PassesZone names zone (Ok fronts) =
    All (IsPassed names fronts) (zone_names zone) × ((name : Labels) → Contains fronts name → Leaves names (zone_names zone) name)
PassesZone names zone (Err fault) = Refutes (λ rule. All (IsFitName rule names) (zone_names zone)) fault

-- what a pass over the zone and over what is left of it told: names outside, with which the zone is seen; or a rule by
-- which it doesn't fit
abbrev pub SeesZone : PartNames → Zone → Result (List Labels) PartFault → Type 0
SeesZone names zone (Ok fronts) = IsSeen names fronts zone × ((name : Labels) → Contains fronts name → Leaves names (zone_names zone) name)
SeesZone names zone (Err fault) = Refutes (λ rule. FitsZone rule names zone) fault

-- names outside were put to the others, each unless one beside it is no longer
pub record HasPut (fronts : List Labels) (old new : Taking) : Type 0 where
  pub names : new.names ≡ old.names
  pub broken : new.broken ≡ old.broken
  pub there : (front : Labels) → Contains fronts front → HasOutside new.outside front
  pub stays : (name : Labels) → Contains old.outside name → Contains new.outside name
  pub added : (name : Labels) → Contains new.outside name → Contains old.outside name ⊎ Contains fronts name

-- what was told of a zone is noted
abbrev pub HasNoted : Result (List Labels) PartFault → Taking → Taking → Type 0
HasNoted (Ok fronts) old new = HasPut fronts old new
HasNoted (Err (Breaks rule name)) old new = new ≡ record old { broken = Some (rule, name) }
HasNoted (Err NoMemory) old new = ⊥

-- the server with those of its zones whose origins are held
abbrev pub with_held_zones : List Labels → Server → Server
with_held_zones names server = record { name = server.name; zones = filter (λ zone. is_among names zone.origin) server.zones }

-- The zones of the whole were taken, where no rule is broken, and this is left of it.
pub record IsLeftWhole (names : PartNames) (outside : List Labels) (whole left : Config) : Type 0 where
  pub is : left ≡ restricted (held_by names) whole
  pub seen : (zone : Zone) → Contains (zones whole) zone → IsSeen names outside zone
  pub leaves : (name : Labels) → Contains outside name → SomeItem (λ zone. Leaves names (zone_names zone) name) (zones whole)

-- This was left of the whole when its zones were taken, and no others.
abbrev pub IsTakenWhole : Taking → Config → Config → Type 0
IsTakenWhole taking = IsLeftOf (restricted_zone (held_by taking.names)) (AreSeen taking)
