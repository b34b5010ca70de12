-- Sets of names, as those of learnt addresses, in which a name is found without a pass over the others.
use Rattle.std.specs.Prelude.{◌≡◌, List}
use Rattle.std.specs.BTreeSet as tree
use Rattle.dns_data.specs.Name.{Labels, name_cmp, is_among}
use Rattle.net_model.specs.declared.deps.Deps.{Deps}

-- the set has the names of the list
abbrev pub IsSetOf : List Labels → tree.BTreeSet Labels → Type 0
IsSetOf names set = (name : Labels) → tree.contains name_cmp set name ≡ is_among names name

-- the sets have the names of the two lists
abbrev pub AreSetsOf : Deps → tree.BTreeSet Labels → tree.BTreeSet Labels → Type 0
AreSetsOf deps least greatest = IsSetOf deps.least least × IsSetOf deps.greatest greatest
