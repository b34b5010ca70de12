-- Items that no earlier one equals: for the contracts of searches for equal items alone.
use Rattle.std.specs.Prelude.{Bool, not, List, [], ◌∷◌, ◌++◌, if◌then◌else◌}
use Rattle.std.specs.List.{list_any}

-- for each item, whether it equals none of the given items and none before it
abbrev pub are_first_behind : {A : Type 0} → (A → A → Bool) → List A → List A → List Bool
are_first_behind eq before [] = []
are_first_behind eq before (item ∷ items) =
    not (list_any (eq item) before) ∷ are_first_behind eq (before ++ item ∷ []) items

-- for each item, whether it equals none before it
abbrev pub are_first : {A : Type 0} → (A → A → Bool) → List A → List Bool
are_first eq items = are_first_behind eq [] items

-- the items that are chosen
abbrev pub chosen : {A : Type 0} → List A → List Bool → List A
chosen [] are_chosen = []
chosen (item ∷ items) [] = []
chosen (item ∷ items) (is_chosen ∷ are_chosen) =
    if is_chosen then item ∷ chosen items are_chosen else chosen items are_chosen
