-- The first free label below a name.
use Rattle.std.specs.Prelude.{ℕ, List, [], ◌∷◌, ◌++◌, Option, MatchOption}
use Rattle.dns_data.specs.Label.{IsLabel}
use Rattle.dns_data.specs.Name.{Labels}
use Rattle.net_model.specs.Class.{IsFirstUnnamed}
use Rattle.net_model.specs.Reading.{Ground, IsNamed}

-- the label is the first that makes an unnamed name below this one, or every label makes a named one
abbrev pub IsFree : Ground → Labels → Option (List ℕ) → Type 0
IsFree basis above found =
    MatchOption found ((label : List ℕ) → IsLabel label → IsNamed basis (above ++ label ∷ [])) (IsFirstUnnamed basis above)
