-- The top servers that hold a zone for a name. At the others a walk of the name ends at once. Public clauses cite
-- `tops_holding` and `StandsForTops` alone.
use Rattle.std.specs.Prelude.{◌≡◌, ◌↔◌, ◌<◌, ℕ, true, List, [], is_some, Option, Some, Contains, slice_get, take}
use Rattle.std.specs.BTreeMap as map
use Rattle.std.specs.List.{filter}
use Rattle.dns_data.specs.Listed.{places_of}
use Rattle.dns_data.specs.Name.{Labels}
use Rattle.net_model.specs.Nearest.{held_zone, nearest, nearest_of}
use Rattle.net_model.specs.declared.config.Config.{Config}
use Rattle.net_model.specs.declared.config.Zone.{Zone}

-- the top servers that hold a zone at or above the name, in the configuration's order
abbrev pub tops_holding : Config → Labels → List Labels
tops_holding config name = filter (λ top. is_some (nearest_of config top name)) config.tops

-- the configuration with these top servers
abbrev pub with_tops : Config → List Labels → Config
with_tops config tops = record config { tops = tops }

-- one of the servers looks each name up in the same zone as this server does
abbrev pub HasLike : Config → List Labels → Labels → Type 0
HasLike config servers server =
    (other : Labels) × Contains servers other × ((name : Labels) → nearest_of config other name ≡ nearest_of config server name)

-- The listed configuration is the other with some of its top servers: for each top server there is one that looks each name
-- up in the same zone.
pub record StandsForTops (config listed : Config) : Type 0 where
  pub tops : List Labels
  pub is : listed ≡ with_tops config tops
  pub some : (top : Labels) → Contains tops top → Contains config.tops top
  pub each : (top : Labels) → Contains config.tops top → HasLike config tops top

-- the zone among these in which a name is looked up
abbrev pub nearest_among : List Zone → Labels → Option Zone
nearest_among zones name = nearest (record { name = []; zones = zones }) name

-- the server holds a zone exactly with each of these origins
abbrev pub HoldsThese : Config → Labels → List Labels → Type 0
HoldsThese config server origins = (origin : Labels) → (is_some (held_zone config server origin) ≡ true) ↔ Contains origins origin

-- the top server at the place holds a zone with this origin
abbrev pub HoldsAt : Config → Labels → ℕ → Type 0
HoldsAt config origin place = (top : Labels) × (slice_get config.tops place ≡ Some top) × (is_some (held_zone config top origin) ≡ true)

-- for an origin the places are listed of the top servers that hold a zone with it, and no others
abbrev pub ListsTops : Config → map.BTreeMap Labels (List ℕ) → Type 0
ListsTops config places = (origin : Labels) (place : ℕ) → Contains (places_of places origin) place ↔ HoldsAt config origin place

-- the place is listed for a front of the name that has fewer labels than these
abbrev pub IsListedAbove : map.BTreeMap Labels (List ℕ) → Labels → ℕ → ℕ → Type 0
IsListedAbove places name bound place = (count : ℕ) × (count < bound) × Contains (places_of places (take count name)) place
