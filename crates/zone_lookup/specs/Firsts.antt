-- Of several values with one name the first: in a list in the order of names, and in a map by names.
use Rattle.std.specs.Prelude.{◌≡◌, ◌↔◌, ◌⊎◌, List, map, Contains}
use Rattle.std.specs.Borrow.{Bor}
use Rattle.std.specs.BTreeMap.{BTreeMap}
use Rattle.std.specs.List.{find, AllByRecursion}
use Rattle.std.specs.List.Sorted.{IsStrictlySortedBy}
use Rattle.std.specs.Map.{lookup}
use Rattle.std.specs.Option.{option_map}
use Rattle.std.specs.Ordering.{is_eq}
use Rattle.dns_data.specs.Name.{Labels, name_eq, name_cmp}
use Rattle.net_model.specs.declared.config.Zone.{Zone}

-- the zones are put to others
abbrev pub ArePut : List Zone → List Zone → List Zone → Type 0
ArePut more old new = (zone : Zone) → Contains new zone ↔ (Contains old zone ⊎ Contains more zone)

module _ {X Y : Type 0} (tell : X → Y) (name_of : Y → Labels) where
  -- the items stand in the order of their names, and of each name there is the first of all that have it
  pub record AreFirstsByName (all : List Y) (items : List X) : Type 0 where
    pub ordered : IsStrictlySortedBy name_cmp (map (λ item. name_of (tell item)) items)
    pub firsts : (name : Labels) → option_map tell (find (λ item. name_eq (name_of (tell item)) name) items) ≡ find (λ one. name_eq (name_of one) name) all

  -- the map has of each name the first of all that have it
  pub record FindsFirsts (all : List Y) (items : BTreeMap (Bor Labels) X) : Type 0 where
    pub keyed : AllByRecursion (λ entry. entry.0.now ≡ name_of (tell entry.1)) items.entries
    pub firsts : (name : Labels) → option_map tell (lookup (λ key. is_eq (name_cmp name key.now)) items.entries) ≡ find (λ one. name_eq (name_of one) name) all
