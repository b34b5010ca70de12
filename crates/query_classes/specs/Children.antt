-- The class tree, a level at a time.
use Rattle.std.specs.Prelude.{◌≡◌, ◌↔◌, ℕ, Bool, List, [], ◌∷◌, ◌++◌, Contains, map, nat_le, Option, MatchOption, is_some}
use Rattle.std.specs.List.{filter}
use Rattle.dns_data.specs.Name.{Labels, IsName, wire_octets, AreInOrder}
use Rattle.net_model.specs.declared.class.Class.TheVariants.{Below}
use Rattle.net_model.specs.Reading.{Ground, IsNamed}
use Rattle.label_graph.specs.declared.next.NextName.{NextName}
use Rattle.query_classes.specs.declared.live_name.LiveName.{LiveName}
use Rattle.query_classes.specs.Members.{IsEmptyClass, RepresentsClass}

-- the name is one label below the other
abbrev pub IsOneBelow : Labels → Labels → Type 0
IsOneBelow above name = (label : List ℕ) × (name ≡ above ++ label ∷ [])

-- the name is in the class tree: it is named, and a name of at most 255 octets
abbrev pub IsInTree : Ground → Labels → Type 0
IsInTree ground name = IsNamed ground name × IsName name

-- the names are those of the class tree one label below the name, in order
pub record AreChildren (ground : Ground) (above : Labels) (names : List Labels) : Type 0 where
  pub ordered : AreInOrder names
  pub all : (name : Labels) → Contains names name ↔ (IsInTree ground name × IsOneBelow above name)

-- the name with each of the labels below, where that has at most 255 octets
abbrev pub of_name_length : Labels → List (List ℕ) → List Labels
of_name_length above labels = filter (λ name. nat_le (wire_octets name) 255) (map (λ label. above ++ label ∷ []) labels)

-- the name with each of the labels below, where that has at most 255 octets, each with the live set that comes with its
-- label
abbrev pub live_below : Labels → List NextName → List LiveName
live_below above nexts = filter (λ one. nat_le (wire_octets one.name) 255) (map (λ next. record { name = above ++ next.label ∷ []; live = next.live }) nexts)

-- what stands for the class below the name: its representative, or nothing where the class is empty
abbrev pub IsBelow : Ground → Labels → Option Labels → Type 0
IsBelow ground name found = MatchOption found (IsEmptyClass ground (Below name)) (RepresentsClass ground (Below name))

-- whether something stands for the class below the name
abbrev pub HasBelow : Ground → Labels → Bool → Type 0
HasBelow ground name some = (found : Option Labels) × IsBelow ground name found × (is_some found ≡ some)
