-- The rows of a class tree.
use Rattle.std.specs.Prelude.{List, [], ◌∷◌, map, Option, None, Some}
use Rattle.std.specs.List.{flat_map}
use Rattle.dns_data.specs.Name.{Labels}
use Rattle.query_classes.specs.declared.tree.ClassRow.{ClassRow}

-- the names of the rows
abbrev pub tree_names : List ClassRow → List Labels
tree_names rows = map (λ row. row.name) rows

-- the name, where the class below it has a representative
abbrev pub if_some : Labels → Option Labels → List Labels
if_some name None = []
if_some name (Some below) = name ∷ []

-- the names of those rows that have a representative of the class below
abbrev pub below_names : List ClassRow → List Labels
below_names rows = flat_map (λ row. if_some row.name row.below) rows
