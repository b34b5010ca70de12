-- The names that exist in a zone, in order: its origin, and what each owner in order adds. The contracts of inner calls
-- alone cite it.
use Rattle.std.specs.Prelude.{◌≡◌, true, not, List, [], ◌∷◌, ◌++◌, ◌↔◌, ◌<◌, length, slice_index_or, Contains}
use Rattle.std.specs.List.{filter}
use Rattle.dns_data.specs.Name.{Labels, is_prefix, AreInOrder}
use Rattle.net_model.specs.declared.config.Zone.{Zone}
use Rattle.net_model.specs.Prefix.{prefixes}
use Rattle.net_model.specs.Zone.{exists_in}

-- the prefixes of a name that are no prefixes of the name before it
abbrev pub new_prefixes : Labels → Labels → List Labels
new_prefixes before name = filter (λ above. not (is_prefix above before)) (prefixes name)

-- the new prefixes of each name, in turn
abbrev pub tree_after : Labels → List Labels → List Labels
tree_after before [] = []
tree_after before (name ∷ names) = new_prefixes before name ++ tree_after name names

-- the names are those that exist in the zone, each once and in order
pub record AreExisting (zone : Zone) (names : List Labels) : Type 0 where
  pub ordered : AreInOrder names
  pub some : 0 < length names
  pub origin_first : slice_index_or names 0 [] ≡ zone.origin
  pub all : (name : Labels) → Contains names name ↔ (exists_in zone name ≡ true)
