-- Names with an open tail.
use Rattle.std.specs.Prelude.{ℕ, List, [], ◌∷◌, ◌++◌, Option, Some, None}
use Rattle.dns_data.specs.Name.{Labels, swap}
use Rattle.name_rules.specs.declared.sym_name.SymName.{SymName}

-- the labels of a tail
abbrev pub tail_labels : Option (List ℕ) → Labels
tail_labels None = []
tail_labels (Some label) = label ∷ []

-- the known name with its tail
abbrev pub whole : SymName → Labels
whole name = name.known ++ tail_labels name.tail

-- the known name with the target's labels in the owner's place, and the same tail
abbrev pub swap_sym : SymName → Labels → Labels → SymName
swap_sym name owner target = record { known = swap name.known owner target; tail = name.tail }
