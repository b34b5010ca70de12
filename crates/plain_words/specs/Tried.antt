-- The order in which octets are tried, as a text in which they stand.
use Rattle.std.specs.Prelude.{◌≡◌, ◌⊎◌, ℕ, ◌<◌, List, codes, Some, Contains, slice_get}

-- the octets that are tried first, in order
abbrev pub tried_first : List ℕ
tried_first = codes "abcdefghijklmnopqrstuvwxyz0123456789-_"

-- the one stands before the other in the list
abbrev pub StandsBefore : List ℕ → ℕ → ℕ → Type 0
StandsBefore octets one other =
    (i : ℕ) × (j : ℕ) × (i < j) × (slice_get octets i ≡ Some one) × (slice_get octets j ≡ Some other)

-- the one octet is tried before the other: both are of the first and stand so there; or the one is of them alone; or
-- neither is, and it is less
abbrev pub IsTriedBefore : ℕ → ℕ → Type 0
IsTriedBefore one other =
    StandsBefore tried_first one other
    ⊎ ((Contains tried_first one × (Contains tried_first other → ⊥))
    ⊎ ((Contains tried_first one → ⊥) × (Contains tried_first other → ⊥) × (one < other)))
