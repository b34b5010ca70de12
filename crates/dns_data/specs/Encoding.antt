-- For the code alone, no public clause cites it: the octets in which a name keeps its labels.
use Rattle.std.specs.Prelude.{◌≡◌, ℕ, ◌+◌, zero, suc, nat_eq, List, [], ◌∷◌, ◌++◌, length, take, drop}
use Rattle.std.specs.List.{common_prefix_len}
use Rattle.dns_data.specs.Label.{label_eq}
use Rattle.dns_data.specs.Name.{Labels, IsName, name_cmp}

-- each label its length and its octets, the top label first
unfoldable pub encoded : Labels → List ℕ
encoded [] = []
encoded (label ∷ labels) = length label ∷ (label ++ encoded labels)

-- the first labels, at most this many, that the octets spell
unfoldable pub labels_in : ℕ → List ℕ → Labels
labels_in zero octets = []
labels_in (suc n) [] = []
labels_in (suc n) (count ∷ rest) = take count rest ∷ labels_in n (drop count rest)

-- the labels of the octets
abbrev pub labels_of : List ℕ → Labels
labels_of octets = labels_in (length octets) octets

-- the octets are those of a name's labels
pub record EncodesName (octets : List ℕ) : Type 0 where
  pub same : encoded (labels_of octets) ≡ octets
  pub name : IsName (labels_of octets)

-- behind the first labels of two names, so many that both have: the octets of those that are left, of which both begin
-- with so many
pub record IsPast (names others : Labels) (count : ℕ) (octets after : List ℕ) (common : ℕ) : Type 0 where
  pub left : EncodesName octets
  pub right : EncodesName after
  pub order : name_cmp (labels_of octets) (labels_of after) ≡ name_cmp names others
  pub passed : count + common_prefix_len label_eq (labels_of octets) (labels_of after) ≡ common_prefix_len label_eq names others
  pub begin : common ≡ common_prefix_len nat_eq octets after
