-- The tree of a zone's existing names, as contracts see it.
use Rattle.std.specs.Prelude.{ℕ, ◌<◌, List, [], length, slice_index_or}
use Rattle.dns_data.specs.Name.{Labels}
use Rattle.net_model.specs.declared.config.Zone.{Zone}

-- a zone and the names that exist in it
pub record ZoneTree : Type 0 where
  pub zone : Zone
  pub names : List Labels

-- the node is one of the tree's
abbrev pub IsNode : ZoneTree → ℕ → Type 0
IsNode tree node = node < length tree.names

-- the name that a node of the tree stands for
abbrev pub name_of : ZoneTree → ℕ → Labels
name_of tree node = slice_index_or tree.names node []
