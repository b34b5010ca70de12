-- Items that are put in order into others. The contracts of inner calls alone cite it.
use Rattle.std.specs.Prelude.{ℕ, List, [], ◌∷◌, Option, Some, None}
use Rattle.std.specs.List.{insert}
use Rattle.std.specs.declared.cmp.Ordering.{Ordering}
use Rattle.net_model.specs.Order.{put_in_order}

-- the items with those of the first list put in order into them, its last one first
abbrev pub put_each : {A : Type 0} → (A → A → Ordering) → List A → List A → List A
put_each cmp [] items = items
put_each cmp (x ∷ xs) items = put_in_order cmp x (put_each cmp xs items)

-- the items with another one at a place, or as they are where it has none
abbrev pub placed : {A : Type 0} → A → List A → Option ℕ → List A
placed item items None = items
placed item items (Some place) = insert items place item
