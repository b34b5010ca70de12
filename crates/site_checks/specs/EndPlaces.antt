-- The places of ends among others, by their servers. The contracts of inner calls alone cite it.
use Rattle.std.specs.Prelude.{◌≡◌, ℕ, Bool, false, List, Some, Contains, slice_get}
use Rattle.std.specs.BTreeMap as map
use Rattle.std.specs.Option.{option_map_or}
use Rattle.dns_data.specs.Listed.{places_of}
use Rattle.dns_data.specs.Name.{Labels}
use Rattle.site_checks.specs.Ends.{end_eq}
use Rattle.site_checks.specs.declared.views.TypedEnd.{TypedEnd}

-- the end at the place is this one
abbrev pub is_end_at : List TypedEnd → TypedEnd → ℕ → Bool
is_end_at ends end place = option_map_or (end_eq end) (slice_get ends place) false

-- the place of each end is listed for its server
abbrev pub ListsPlaces : map.BTreeMap Labels (List ℕ) → List TypedEnd → Type 0
ListsPlaces places ends = (place : ℕ) (end : TypedEnd) → slice_get ends place ≡ Some end → Contains (places_of places end.server) place
