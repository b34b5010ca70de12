-- What walks that go straight end in, and when two such queries have the same outcomes.
use Rattle.std.specs.Prelude.{◌≡◌, Bool, true, false, ◌&&◌, ◌||◌, ◌⊎◌, Option, Some, None, is_some, not, option_and_then, option_map}
use Rattle.std.specs.Option.{option_map_or}
use mathlib.Core.Bool.{beq}
use Rattle.dns_data.specs.declared.rr_type.RrType.{RrType}
use Rattle.graph_form.specs.FirstPath.{answer_eq}
use Rattle.net_model.specs.declared.walk.Leaf.{Leaf}
use Rattle.straight_walks.specs.Answers.{outcome_with}
use Rattle.straight_walks.specs.declared.ends.StraightEnds.{StraightEnds}

-- the outcome of walks with the type that come to the zones that answer, if some do
abbrev pub told_by : StraightEnds → RrType → Option (Option Leaf)
told_by ends rtype = option_map (λ answering. outcome_with answering rtype) ends.answer

-- with the type it is one of the outcomes of the ends: that of walks to the zones that answer, or the failure of a walk
-- that ends where none answers
abbrev pub IsOutcomeOf : StraightEnds → RrType → Option Leaf → Type 0
IsOutcomeOf ends rtype outcome = ((outcome ≡ None) × (ends.fails ≡ true)) ⊎ (told_by ends rtype ≡ Some outcome)

-- some walk with the type fails
abbrev pub fails_with : StraightEnds → RrType → Bool
fails_with ends rtype = ends.fails || option_map_or (λ outcome. not (is_some outcome)) (told_by ends rtype) false

-- the answer with the type, if there is one
abbrev pub answer_with : StraightEnds → RrType → Option Leaf
answer_with ends rtype = option_and_then (λ outcome. outcome) (told_by ends rtype)

-- both are the same answer, or both are none
abbrev pub outcomes_alike : Option Leaf → Option Leaf → Bool
outcomes_alike None None = true
outcomes_alike (Some one) (Some other) = answer_eq one other
outcomes_alike one other = false

-- the ends have the same outcomes with the type
abbrev pub ends_alike : StraightEnds → StraightEnds → RrType → Bool
ends_alike one other rtype = beq (fails_with one rtype) (fails_with other rtype) && outcomes_alike (answer_with one rtype) (answer_with other rtype)
