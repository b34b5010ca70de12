-- Places that maps list for names. The contracts of inner calls alone cite it.
use Rattle.std.specs.Prelude.{ℕ, List, [], unwrap_or}
use Rattle.std.specs.BTreeMap as map
use Rattle.dns_data.specs.Name.{Labels, name_cmp}

-- the places that are listed for a name
abbrev pub places_of : map.BTreeMap Labels (List ℕ) → Labels → List ℕ
places_of places name = unwrap_or (map.get name_cmp places name) []
