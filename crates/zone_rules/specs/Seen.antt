-- A set of what was seen, asked for an item: for the contracts of the code's searches alone.
use Rattle.std.specs.Prelude.{Bool}
use Rattle.std.specs.BTreeSet as tree
use Rattle.std.specs.declared.cmp.Ordering.{Ordering}

-- the item is among these
abbrev pub has : {A : Type 0} → (A → A → Ordering) → tree.BTreeSet A → A → Bool
has cmp set item = tree.contains_by (cmp item) set
