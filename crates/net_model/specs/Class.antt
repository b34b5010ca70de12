-- Classes of query names, and the name that stands for a class.
use Rattle.std.specs.Prelude.{◌≡◌, ℕ, ◌+◌, ◌-◌, ◌≤◌, List, [], ◌∷◌, ◌++◌, length, if◌then◌else◌, ◌==◌}
use Rattle.std.specs.Cmp.Lexicographic.{slice_cmp}
use Rattle.std.specs.Ordering.{nat_cmp, ordering_then}
use Rattle.std.specs.declared.cmp.Ordering.{Ordering}
use Rattle.std.specs.declared.cmp.Ordering.TheVariants.{Less, Greater}
use Rattle.dns_data.specs.Label.{IsLabel}
use Rattle.dns_data.specs.Name.{Labels, IsName, name_cmp}
use Rattle.dns_data.specs.Octet.{is_lower, is_digit}
use Rattle.net_model.specs.declared.class.Class.{Class}
use Rattle.net_model.specs.declared.class.Class.TheVariants.{Exact, Below}
use Rattle.net_model.specs.Reading.{Ground, IsNamed}

-- the name by which a class goes
abbrev pub class_name : Class → Labels
class_name (Exact alone) = alone
class_name (Below above) = above

-- above is the longest named prefix of the name
pub record IsLongestNamed (ground : Ground) (name above : Labels) : Type 0 where
  pub below : Labels
  pub prefix : name ≡ above ++ below
  pub named : IsNamed ground above
  pub longest : (longer rest : Labels) → name ≡ longer ++ rest → IsNamed ground longer → length longer ≤ length above

-- the class is the name's: a named name is alone, any other is below its longest named prefix
abbrev pub IsClassOf : Ground → Labels → Class → Type 0
IsClassOf ground name (Exact alone) = (alone ≡ name) × IsNamed ground name
IsClassOf ground name (Below above) = (IsNamed ground name → ⊥) × IsLongestNamed ground name above

-- the place of an octet in the order in which labels are tried: a to z, 0 to 9, - and _, then the others by value
abbrev pub octet_rank : ℕ → ℕ
octet_rank octet =
    if is_lower octet then octet - 97
    else (if is_digit octet then octet - 48 + 26
    else (if octet == 45 then 36 else (if octet == 95 then 37 else octet + 38)))

-- the order in which labels are tried: by length, then octet by octet
abbrev pub trial_cmp : List ℕ → List ℕ → Ordering
trial_cmp a b =
    ordering_then (nat_cmp (length a) (length b))
    (slice_cmp (λ x y. nat_cmp (octet_rank x) (octet_rank y)) a b)

-- the label is the first that makes an unnamed name below this one
pub record IsFirstUnnamed (ground : Ground) (above : Labels) (label : List ℕ) : Type 0 where
  pub is_label : IsLabel label
  pub unnamed : IsNamed ground (above ++ label ∷ []) → ⊥
  pub first : (other : List ℕ) → IsLabel other → trial_cmp other label ≡ Less → IsNamed ground (above ++ other ∷ [])

-- the name stands for the class below another: it is that other name with its first unnamed label below
pub record StandsBelow (ground : Ground) (above name : Labels) : Type 0 where
  pub label : List ℕ
  pub first : IsFirstUnnamed ground above label
  pub extends : name ≡ above ++ label ∷ []
  pub is_name : IsName name

-- the name is the class's representative. A class that has none is empty.
abbrev pub IsRepresentative : Ground → Class → Labels → Type 0
IsRepresentative ground (Exact alone) name = name ≡ alone
IsRepresentative ground (Below above) name = StandsBelow ground above name

-- the order of classes: by their names, the name alone before those below it
abbrev pub class_cmp : Class → Class → Ordering
class_cmp (Exact a) (Exact b) = name_cmp a b
class_cmp (Exact a) (Below b) = ordering_then (name_cmp a b) Less
class_cmp (Below a) (Exact b) = ordering_then (name_cmp a b) Greater
class_cmp (Below a) (Below b) = name_cmp a b
