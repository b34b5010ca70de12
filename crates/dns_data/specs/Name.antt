-- Names: lists of labels, the top one first (RFC 1034 section 3.1, RFC 1035 sections 2.3.4 and 3.1).
use Rattle.std.specs.Prelude.{◌≡◌, ℕ, ◌+◌, ◌≤◌, Bool, List, ◌++◌, length, drop, sum_by, AllPairs}
use Rattle.std.specs.List.{list_any, starts_with, AllByRecursion}
use Rattle.std.specs.Cmp.Lexicographic.{slice_cmp}
use Rattle.std.specs.declared.cmp.Ordering.{Ordering}
use Rattle.std.specs.declared.cmp.Ordering.TheVariants.{Less}
use lib.Pointwise.{pointwise}
use Rattle.dns_data.specs.Label.{IsLabel, label_eq, label_cmp}

-- the labels of a name, the top one first
abbrev pub Labels : Type 0
Labels = List (List ℕ)

-- a name's octets on the wire: one, and for each label its length and one (RFC 1035 section 3.1)
abbrev pub wire_octets : Labels → ℕ
wire_octets name = sum_by (λ label. length label + 1) name + 1

-- labels with at most 255 octets
pub record IsName (name : Labels) : Type 0 where
  pub labels : AllByRecursion IsLabel name
  pub short : wire_octets name ≤ 255

-- two names are one
abbrev pub name_eq : Labels → Labels → Bool
name_eq a b = pointwise label_eq a b

-- the name is among these
abbrev pub is_among : List Labels → Labels → Bool
is_among names name = list_any (name_eq name) names

-- the first name's labels begin the second's: the second is at or below the first
abbrev pub is_prefix : Labels → Labels → Bool
is_prefix above name = starts_with label_eq name above

-- the order of names: by their labels from the root, a proper prefix first
abbrev pub name_cmp : Labels → Labels → Ordering
name_cmp a b = slice_cmp label_cmp a b

-- names in order, each once
abbrev pub AreInOrder : List Labels → Type 0
AreInOrder names = AllPairs (λ a b. name_cmp a b ≡ Less) names

-- a name at or below the owner, with the target's labels in the owner's place (RFC 6672 section 2.2)
abbrev pub swap : Labels → Labels → Labels → Labels
swap name owner target = target ++ drop (length owner) name
