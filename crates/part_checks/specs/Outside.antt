-- Where names leave those that a part holds. The contracts of inner calls alone cite it.
use Rattle.std.specs.Prelude.{◌≡◌, ◌-◌, ◌≤◌, ◌&&◌, Bool, true, false, not, List, ◌∷◌, Option, Some, Contains, length, map, take}
use Rattle.dns_data.specs.Name.{Labels, is_among, is_prefix, wire_octets}
use Rattle.net_model.specs.Prefix.{shortest}
use Rattle.net_model.specs.Reading.{Redirection}
use Rattle.net_model.specs.Zone.{exists_in}
use Rattle.net_model.specs.declared.config.Zone.{Zone}
use Rattle.label_graph.specs.Graphs.{SomeItem}
use Rattle.part_names.specs.PartNames.{is_own}
use Rattle.part_names.specs.declared.names.PartNames.{PartNames}
use Rattle.part_checks.specs.Parts.{held_by}

-- the name isn't held
abbrev pub is_outside : PartNames → Labels → Bool
is_outside names name = not (is_among (held_by names) name)

-- the shortest prefix of the name that isn't held
abbrev pub first_outside : PartNames → Labels → Option Labels
first_outside names name = shortest (is_outside names) name

-- the shortest prefix of the name that is own and isn't held
abbrev pub own_outside : PartNames → Labels → Option Labels
own_outside names name = shortest (λ above. is_outside names above && is_own names above) name

-- the name without its last label
abbrev pub parent : Labels → Labels
parent name = take (length name - 1) name

-- the name right above this one is held
abbrev pub IsBelowHeld : PartNames → Labels → Type 0
IsBelowHeld names name = is_among (held_by names) (parent name) ≡ true

-- one of these names leaves the held names at this one
abbrev pub Leaves : PartNames → List Labels → Labels → Type 0
Leaves names starts front = SomeItem (λ start. first_outside names start ≡ Some front) starts

-- one of these names stands right below the same name as this one, and has no more octets
pub record HasOutside (outside : List Labels) (front : Labels) : Type 0 where
  pub name : Labels
  pub there : Contains outside name
  pub beside : parent name ≡ parent front
  pub no_longer : wire_octets name ≤ wire_octets front

-- of a name that isn't held, where it leaves the held names: it isn't told as away, no prefix of the name that isn't held
-- is own, and it stands among the names outside, or one beside it that is no longer
pub record IsPassed (names : PartNames) (outside : List Labels) (name : Labels) : Type 0 where
  pub away : (front : Labels) → first_outside names name ≡ Some front → is_among names.away front ≡ false
  pub own : (front : Labels) → own_outside names name ≡ Some front → ⊥
  pub there : (front : Labels) → first_outside names name ≡ Some front → HasOutside outside front

-- the origin of a zone and the owners of its records
abbrev pub zone_names : Zone → List Labels
zone_names zone = zone.origin ∷ map (λ rr. rr.owner) zone.rrs

-- where the name leaves the held names, the name above exists in what is left of the zone
abbrev pub IsLasting : PartNames → Zone → Labels → Type 0
IsLasting names left name = (front : Labels) → first_outside names name ≡ Some front → exists_in left (parent front) ≡ true

-- the name is held, or leaves the held names at what is told as away
abbrev pub IsHeldOrAtAway : PartNames → Labels → Type 0
IsHeldOrAtAway names name = (front : Labels) → first_outside names name ≡ Some front → is_among names.away front ≡ true

-- the name above this one isn't at or below the owner or the target of the redirection
abbrev pub IsApart : Redirection → Labels → Type 0
IsApart redirection name =
    (is_prefix redirection.owner (parent name) ≡ false) × (is_prefix redirection.target (parent name) ≡ false)
