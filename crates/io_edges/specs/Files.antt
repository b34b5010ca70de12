-- What a source of files tells, and what a reading gives.
use Rattle.std.specs.Prelude.{◌≡◌, ◌≢◌, ℕ, ◌⊎◌, List, [], take, drop, Option, Some, None}

-- what is told of a name: nothing yet, that it isn't held, or its octets
pub data Told : Type 0 where
  Untold : Told
  NotHeld : Told
  Holds : (octets : List ℕ) → Told

-- what is told of files, by their names
abbrev pub FilesTold : Type 0
FilesTold = List ℕ → Told

-- octets of the name are told, and have P
abbrev pub IsToldAnd : Told → (List ℕ → Type 0) → Type 0
IsToldAnd Untold P = ⊥
IsToldAnd NotHeld P = ⊥
IsToldAnd (Holds octets) P = P octets

-- what was told of a name is told still
abbrev pub StaysTold : FilesTold → FilesTold → Type 0
StaysTold before after = (name : List ℕ) → (before name ≡ Untold) ⊎ (after name ≡ before name)

-- something is told of every name
abbrev pub TellsAll : FilesTold → Type 0
TellsAll told = (name : List ℕ) → told name ≢ Untold

-- what is told of every other name is the same
abbrev pub SameElsewhere : List ℕ → FilesTold → FilesTold → Type 0
SameElsewhere name before after = (other : List ℕ) → other ≢ name → after other ≡ before other

-- the first `count` octets of the piece are those that stand in the octets from `at`
abbrev pub IsPieceFrom : List ℕ → ℕ → ℕ → List ℕ → Type 0
IsPieceFrom octets at count piece = take count piece ≡ take count (drop at octets)

-- the first so many of the octets that are told; none while no octets are told
abbrev pub first_told : Told → ℕ → List ℕ
first_told Untold count = []
first_told NotHeld count = []
first_told (Holds octets) count = take count octets

-- what a source tells that knows all of its names
abbrev pub all_told : Option (List ℕ) → Told
all_told None = NotHeld
all_told (Some octets) = Holds octets

-- what a source tells that knows the names that it has read
abbrev pub read_told : Option (List ℕ) → Told
read_told None = Untold
read_told (Some octets) = Holds octets
