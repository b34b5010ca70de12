-- For each place a list of places.
use Rattle.std.specs.Prelude.{◌≡◌, ◌≢◌, Bool, true, false, ℕ, ◌+◌, ◌-◌, ◌<◌, ◌≤◌, List, [], ◌++◌, length, replicate, slice_index_or, slice_set, AllPairs, Contains}
use Rattle.std.specs.List.{sum_by}

-- the row of the place has the other place
abbrev pub RowHas : List (List ℕ) → ℕ → ℕ → Type 0
RowHas rows place other = Contains (slice_index_or rows place []) other

-- the rows have only places that have rows
abbrev pub AreInside : List (List ℕ) → Type 0
AreInside rows = (place other : ℕ) → RowHas rows place other → other < length rows

-- how many places all rows have
abbrev pub total : List (List ℕ) → ℕ
total rows = sum_by (λ row. length row) rows

-- the rows of so many places: the first are these, and the others are empty
abbrev pub all_rows : List (List ℕ) → ℕ → List (List ℕ)
all_rows filled count = filled ++ replicate (count - length filled) []

-- some empty rows were put at the end, no more than until the place has one
pub record IsFilledOn (rows : List (List ℕ)) (place : ℕ) (after : List (List ℕ)) : Type 0 where
  pub more : ℕ
  pub is : after ≡ rows ++ replicate more []
  pub within : more ≤ place + 1 - length rows

-- those of some places that a list hadn't were put at its end, each once; and whether there were any
pub record AreAdded (before more after : List ℕ) (any : Bool) : Type 0 where
  pub new : List ℕ
  pub is : after ≡ before ++ new
  pub has : (place : ℕ) → Contains more place → Contains after place
  pub only : (place : ℕ) → Contains new place → Contains more place
  pub once : AllPairs (λ a b. a ≢ b) before → AllPairs (λ a b. a ≢ b) after
  pub none : any ≡ false → new ≡ []
  pub some : any ≡ true → 0 < length new

-- those of some places that the row of a place hadn't were put at its end; and whether there were any
pub record IsPut (rows : List (List ℕ)) (place : ℕ) (more : List ℕ) (after : List (List ℕ)) (any : Bool) : Type 0 where
  pub row : List ℕ
  pub added : AreAdded (slice_index_or rows place []) more row any
  pub is : after ≡ slice_set rows place row
