-- Of equal items the first.
use Rattle.std.specs.Prelude.{Bool, List, [], ◌∷◌, ◌++◌, if◌then◌else◌}
use Rattle.std.specs.List.{list_any}

-- the items to which none is equal of those that came before
abbrev pub distinct_behind : {A : Type 0} → (A → A → Bool) → List A → List A → List A
distinct_behind eq before [] = []
distinct_behind eq before (item ∷ items) =
    if list_any (eq item) before then distinct_behind eq (before ++ item ∷ []) items
    else item ∷ distinct_behind eq (before ++ item ∷ []) items

-- the list without the items that equal an earlier one
abbrev pub distinct : {A : Type 0} → (A → A → Bool) → List A → List A
distinct eq items = distinct_behind eq [] items
