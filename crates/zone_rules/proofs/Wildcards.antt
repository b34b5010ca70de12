-- The leftmost label of a name, as far as a loop over its labels from the top has come.
use Rattle.std.proofs.Common.{◌≡◌, ℕ, Bool, false, List, [], ◌∷◌, codes, refl}
use Rattle.dns_data.specs.Label.{label_eq}
use Rattle.dns_data.specs.Name.{Labels}
use Rattle.zone_rules.specs.Apex.{is_wildcard}

-- what the last label said, unless labels are left
abbrev pub said_by : Bool → Labels → Bool
said_by last [] = last
said_by last (label ∷ labels) = is_wildcard (label ∷ labels)

-- no label was looked at
pub said_first : (labels : Labels) → is_wildcard labels ≡ said_by false labels
said_first [] = refl
said_first (label ∷ labels) = refl

-- once one label more was looked at, it says whether it is the asterisk, unless labels are left
pub said_next : (last : Bool) (label : List ℕ) (labels : Labels) → said_by last (label ∷ labels) ≡ said_by (label_eq label (codes "*")) labels
said_next last label [] = refl
said_next last label (next ∷ labels) = refl
