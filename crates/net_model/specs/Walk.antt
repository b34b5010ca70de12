-- The walks of a query: each begins in a state of its start, takes one branch of each state, and ends in a leaf.
use Rattle.std.specs.Prelude.{◌≡◌, ◌≢◌, ◌↔◌, ℕ, Bool, List, [], ◌∷◌, length, map, Option, Some, None, IsSome, option_map, option_and_then, slice_get, if◌then◌else◌, ◌==◌, Contains, AllPairs}
use Rattle.std.specs.Option.{option_to_list}
use Rattle.std.specs.Cmp.Lexicographic.{slice_cmp}
use Rattle.std.specs.Ordering.{nat_cmp}
use Rattle.std.specs.declared.cmp.Ordering.{Ordering}
use Rattle.std.specs.declared.cmp.Ordering.TheVariants.{Less}
use Rattle.dns_data.specs.Name.{Labels}
use Rattle.dns_data.specs.declared.rr_type.RrType.{RrType}
use Rattle.net_model.specs.declared.walk.Hop.{Hop}
use Rattle.net_model.specs.declared.place.Place.{Place}
use Rattle.net_model.specs.declared.walk.Leaf.TheVariants.{Overlong}
use Rattle.net_model.specs.declared.walk.State.{State}
use Rattle.net_model.specs.declared.walk.Walk.{Walk}
use Rattle.net_model.specs.Step.{Setting, Branch, Go, End, next, start}

-- a walk with a state and a hop before it
abbrev pub led_on : State → Hop → Walk → Walk
led_on state hop walk = record { states = state ∷ walk.states; hops = hop ∷ walk.hops; leaf = walk.leaf }

-- the walk that a branch of a state gives: it ends, if no number of a branch is left; or it goes on
abbrev pub branched : State → Bool → (State → Option Walk) → Option Branch → Option Walk
branched state is_last on None = None
branched state is_last on (Some (Go hop to)) = option_map (led_on state hop) (on to)
branched state is_last on (Some (End hop leaf)) =
    if is_last then Some (record { states = state ∷ []; hops = option_to_list hop; leaf = leaf }) else None

-- the walk from a state that takes the branches with these numbers, counted from 0
abbrev pub walk_from : Setting → RrType → List ℕ → State → Option Walk
walk_from setting rtype [] state = None
walk_from setting rtype (number ∷ numbers) state =
    branched state (length numbers == 0) (walk_from setting rtype numbers)
    (slice_get (next setting rtype state) number)

-- the walk of a query with these numbers: first that of its start state, then those of the branches
abbrev pub walk_along : Setting → Labels → RrType → List ℕ → Option Walk
walk_along setting query rtype [] = None
walk_along setting query rtype (number ∷ numbers) =
    option_and_then (walk_from setting rtype numbers) (slice_get (start setting.config query) number)

-- the order of walks: by their lists of numbers
abbrev pub path_cmp : List ℕ → List ℕ → Ordering
path_cmp a b = slice_cmp nat_cmp a b

-- the walk is one of the query with the type
abbrev pub IsWalk : Setting → Labels → RrType → Walk → Type 0
IsWalk setting query rtype walk = (numbers : List ℕ) × (walk_along setting query rtype numbers ≡ Some walk)

-- the lists of numbers are those of all walks of the query with the type, in order
pub record ArePaths (setting : Setting) (query : Labels) (rtype : RrType) (paths : List (List ℕ)) : Type 0 where
  pub ordered : AllPairs (λ a b. path_cmp a b ≡ Less) paths
  pub all : (numbers : List ℕ) → Contains paths numbers ↔ IsSome (walk_along setting query rtype numbers)

-- the walks are all those of the query with the type, in order
abbrev pub AreWalks : Setting → Labels → RrType → List Walk → Type 0
AreWalks setting query rtype walks =
    (paths : List (List ℕ)) × ArePaths setting query rtype paths
    × (map (walk_along setting query rtype) paths ≡ map Some walks)

-- no walk of the query with the type ends in a name of more than 255 octets
abbrev pub IsBoundedWith : Setting → Labels → RrType → Type 0
IsBoundedWith setting query rtype = (walk : Walk) (place : Place) → IsWalk setting query rtype walk → walk.leaf ≢ Overlong place
