-- Items put in order.
use Rattle.std.specs.Prelude.{◌≡◌, Bool, List, IsPermutation, IsSorted}
use Rattle.std.specs.List.{dedup}
use Rattle.std.specs.declared.cmp.Ordering.{Ordering}

-- the list has the items in order, each once
pub record IsInOrderOf {X : Type 0} (R : X → X → Ordering) (E : X → X → Bool) (items list : List X) : Type 0 where
  pub sorted : List X
  pub same : IsPermutation items sorted
  pub order : IsSorted R sorted
  pub once : list ≡ dedup E sorted
