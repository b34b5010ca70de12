-- Which names of a class tree are a part's own.
use Rattle.std.specs.Prelude.{Bool, false, List}
use Rattle.std.specs.List.{filter}
use Rattle.std.specs.Option.{option_map_or}
use Rattle.dns_data.specs.Name.{Labels, is_among}
use Rattle.net_model.specs.Prefix.{longest}
use Rattle.part_laws.specs.Part.{with_prefixes}
use Rattle.part_names.specs.PartNames.{is_own}
use Rattle.part_names.specs.declared.names.PartNames.{PartNames}
use Rattle.query_classes.specs.Rows.{tree_names, below_names}
use Rattle.query_classes.specs.declared.tree.ClassRow.{ClassRow}

-- the longest prefix of the name that the part holds is own
abbrev pub is_own_here : PartNames → Labels → Bool
is_own_here names name = option_map_or (is_own names) (longest (is_among (with_prefixes names.held)) name) false

-- the own names of the rows of a class tree
abbrev pub own_tree : PartNames → List ClassRow → List Labels
own_tree names rows = filter (is_own_here names) (tree_names rows)

-- those of them below which there is a class that isn't empty
abbrev pub own_below : PartNames → List ClassRow → List Labels
own_below names rows = filter (is_own_here names) (below_names rows)
