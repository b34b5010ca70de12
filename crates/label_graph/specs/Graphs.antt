-- A graph: its names and redirections with what is found along these, and what is live below a live set.
use Rattle.std.specs.Prelude.{◌≡◌, ◌↔◌, ℕ, List, [], ◌∷◌, ◌++◌, Contains, AllPairs}
use Rattle.std.specs.declared.cmp.Ordering.TheVariants.{Less}
use Rattle.dns_data.specs.Label.{label_cmp}
use Rattle.dns_data.specs.Name.{Labels, AreInOrder}
use Rattle.label_graph.specs.declared.pair.Pair.{Pair}
use Rattle.label_graph.specs.LiveSet.{IsClosed, name_at}
use Rattle.label_graph.specs.Pairs.{ground_with}
use Rattle.label_graph.specs.Targets.{AreReads, IsFrom, IsStep}

-- names in order with the redirections of pairs, and rows of what is found along their targets
pub record IsGraph (names : List Labels) (pairs : List Pair) (reads : List (List ℕ)) : Type 0 where
  pub order : AreInOrder names
  pub closed : IsClosed (ground_with names pairs)
  pub are_reads : AreReads names pairs reads

-- some item of the list has the property
abbrev pub SomeItem : {X : Type 0} → (X → Type 0) → List X → Type 0
SomeItem {X} P xs = (x : X) × Contains xs x × P x

-- the name at the place has a name with this label below among the names
abbrev pub HasChild : List Labels → List ℕ → ℕ → Type 0
HasChild names label place = Contains names (name_at names place ++ label ∷ [])

-- the labels are those below the name at the place, in order
pub record AreLabelsBelow (names : List Labels) (place : ℕ) (labels : List (List ℕ)) : Type 0 where
  pub all : (label : List ℕ) → Contains labels label ↔ HasChild names label place
  pub order : AllPairs (λ a b. label_cmp a b ≡ Less) labels

-- the places are those that are live where the label is put below the others: the steps, closed
pub record IsLiveBelow (names : List Labels) (reads : List (List ℕ)) (live : List ℕ) (label : List ℕ) (places : List ℕ) : Type 0 where
  pub steps : List ℕ
  pub are_steps : (other : ℕ) → Contains steps other ↔ SomeItem (IsStep names label other) live
  pub closed : (other : ℕ) → Contains places other ↔ SomeItem (IsFrom reads other) steps
