-- Lists.
use Rattle.std.specs.Prelude.{List, [], ◌∷◌, Bool, true, false}

-- whether a list has no item
abbrev pub is_empty : {A : Type 0} → List A → Bool
is_empty [] = true
is_empty (x ∷ xs) = false
