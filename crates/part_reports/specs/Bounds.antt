-- Intervals in the order of names, each from where the one before it ends.
use Rattle.std.specs.Prelude.{Bool, true, ◌&&◌, not, List, [], ◌∷◌, Option, Some, None}
use Rattle.std.specs.Ordering.{is_lt}
use Rattle.dns_data.specs.Name.{Labels, name_cmp}

-- Where an interval of names begins, and the first name behind it. Without the one it begins with the root, without the
-- other it has all later names.
pub record Bounds : Type 0 where
  pub from : Option Labels
  pub to : Option Labels

-- an interval that ends here ends behind the name
abbrev pub ends_behind : Option Labels → Labels → Bool
ends_behind None name = true
ends_behind (Some to) name = is_lt (name_cmp name to)

-- an interval that begins here has begun at the name
abbrev pub begun_at : Option Labels → Labels → Bool
begun_at None name = true
begun_at (Some from) name = not (is_lt (name_cmp name from))

-- the name is in the interval
abbrev pub is_within : Bounds → Labels → Bool
is_within bounds name = begun_at bounds.from name && ends_behind bounds.to name

-- the intervals that part at these names, the first from here on, and the last without an end
abbrev pub parted_at : Option Labels → List Labels → List Bounds
parted_at from [] = record { from = from; to = None } ∷ []
parted_at from (name ∷ names) = record { from = from; to = Some name } ∷ parted_at (Some name) names
