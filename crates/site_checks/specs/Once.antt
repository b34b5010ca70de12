-- Lists to which an item is put unless it is there.
use Rattle.std.specs.Prelude.{Bool, List, [], ◌∷◌, ◌++◌, if◌then◌else◌}
use Rattle.std.specs.List.{list_any}

-- the items with this one behind them, unless an equal one is among them
abbrev pub with_new : {A : Type 0} → (A → A → Bool) → List A → A → List A
with_new eq items item = if list_any (eq item) items then items else items ++ item ∷ []
