-- Fronts of names, and what the targets of redirections are followed to.
use Rattle.std.specs.Prelude.{◌≡◌, ◌≢◌, ◌↔◌, Bool, true, false, ℕ, ◌<◌, ◌≤◌, List, [], ◌∷◌, ◌++◌, map, length, take, slice_index_or, AllPairs, Contains}
use Rattle.dns_data.specs.Name.{Labels}
use Rattle.net_model.specs.Reading.{ReadsOnTo}
use Rattle.label_graph.specs.declared.pair.Pair.{Pair}
use Rattle.label_graph.specs.LiveSet.{name_at}
use Rattle.label_graph.specs.Pairs.{redirection}
use Rattle.label_graph.specs.Rows.{RowHas, AreInside, IsPut, total}

-- the name is a front of the other: its first so many labels, of at least this many
abbrev pub IsPrefixFrom : ℕ → Labels → Labels → Type 0
IsPrefixFrom from name front = (count : ℕ) × (from ≤ count) × (count ≤ length name) × (front ≡ take count name)

-- ---- where one comes by rows of places

-- the row of the place has the first of those between, the row of each the next, and that of the last the other place
abbrev pub LeadsAlong : List (List ℕ) → ℕ → List ℕ → ℕ → Type 0
LeadsAlong rows place [] other = place ≡ other
LeadsAlong rows place (next ∷ rest) other = RowHas rows place next × LeadsAlong rows next rest other

-- the other place is the first, or one comes to it from there by the rows
abbrev pub IsFrom : List (List ℕ) → ℕ → ℕ → Type 0
IsFrom rows other place = (between : List ℕ) × LeadsAlong rows place between other

-- ---- what is found along the labels of a name

-- the place is that of the root
abbrev pub IsRootPlace : List Labels → ℕ → Type 0
IsRootPlace names place = (place < length names) × (name_at names place ≡ [])

-- the name at the other place is that at the first with this label below
abbrev pub IsStep : List Labels → List ℕ → ℕ → ℕ → Type 0
IsStep names label other place = (other < length names) × (name_at names other ≡ name_at names place ++ label ∷ [])

-- the name at the place is that with this label below one to which one comes by the rows from a place with the property
abbrev pub IsStepFrom : List Labels → List (List ℕ) → (ℕ → Type 0) → List ℕ → ℕ → Type 0
IsStepFrom names rows P label other = (place above : ℕ) × P place × IsFrom rows above place × IsStep names label other above

-- the place is found from those with the property by these labels, one after another
abbrev pub IsFoundFrom : List Labels → List (List ℕ) → (ℕ → Type 0) → Labels → ℕ → Type 0
IsFoundFrom names rows P [] other = P other
IsFoundFrom names rows P (label ∷ rest) other = IsFoundFrom names rows (IsStepFrom names rows P label) rest other

-- the place is found along the labels of the name, from the root on
abbrev pub IsFound : List Labels → List (List ℕ) → Labels → ℕ → Type 0
IsFound names rows name other = IsFoundFrom names rows (IsRootPlace names) name other

-- ---- rows of what is found along targets

-- the row of each name has some names to which it reads on, each once
pub record AreTrue (names : List Labels) (pairs : List Pair) (rows : List (List ℕ)) : Type 0 where
  pub len : length rows ≡ length names
  pub inside : AreInside rows
  pub reads : (place other : ℕ) → RowHas rows place other
      → ReadsOnTo (map redirection pairs) (name_at names place) (name_at names other)
  pub once : (place : ℕ) → AllPairs (λ a b. a ≢ b) (slice_index_or rows place [])

-- the row of the redirection's owner has what is found along its target
abbrev pub HasTarget : List Labels → List (List ℕ) → Pair → Type 0
HasTarget names rows pair =
    (owner other : ℕ) → owner < length names → name_at names owner ≡ pair.from → IsFound names rows pair.to other
    → RowHas rows owner other

-- the rows have what is found along the targets of all redirections
pub record AreReads (names : List Labels) (pairs : List Pair) (rows : List (List ℕ)) : Type 0 where
  pub each_true : AreTrue names pairs rows
  pub all : (pair : Pair) → Contains pairs pair → HasTarget names rows pair

-- what is found along the target of the redirection was put into the row of its owner; and whether anything was new
pub record IsFollowed (names : List Labels) (pair : Pair) (before after : List (List ℕ)) (any : Bool) : Type 0 where
  pub owner : ℕ
  pub within : owner < length names
  pub is : name_at names owner ≡ pair.from
  pub found : List ℕ
  pub are_found : (other : ℕ) → Contains found other ↔ IsFound names before pair.to other
  pub put : IsPut before owner found after any

-- the targets of some redirections were followed; and whether anything was new
pub record ArePassed (names : List Labels) (pairs passed : List Pair) (before after : List (List ℕ)) (any : Bool) : Type 0 where
  pub each_true : AreTrue names pairs after
  pub none : any ≡ false → (after ≡ before) × ((pair : Pair) → Contains passed pair → HasTarget names before pair)
  pub some : any ≡ true → total before < total after
