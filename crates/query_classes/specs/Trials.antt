-- Octets and labels in the order in which they are tried.
use Rattle.std.specs.Prelude.{◌≡◌, ◌≢◌, ◌⊎◌, ℕ, zero, suc, ◌+◌, ◌-◌, ◌<◌, ◌≤◌, true, List, ◌∷◌, ◌++◌, length, take, replicate, slice_index_or, Option, MatchOption}
use Rattle.std.specs.declared.cmp.Ordering.TheVariants.{Less}
use Rattle.dns_data.specs.Label.{IsLabel, is_label_octet}
use Rattle.net_model.specs.Class.{octet_rank, trial_cmp}

-- the next octet of a label is the first behind this one
pub record IsOctetBehind (octet next : ℕ) : Type 0 where
  pub is_octet : is_label_octet next ≡ true
  pub behind : octet_rank octet < octet_rank next
  pub first : (other : ℕ) → is_label_octet other ≡ true → octet_rank other < octet_rank next → octet_rank other ≤ octet_rank octet

-- behind so many octets all others are 255, and the one before them isn't
pub record IsLastBut (octets : List ℕ) (place : ℕ) : Type 0 where
  pub within : place ≤ length octets
  pub last : octets ≡ take place octets ++ replicate (length octets - place) 255
  pub before : 0 < place → slice_index_or octets (place - 1) 0 ≢ 255

-- the octets that are tried next: one more letter, where all are 255; else the one before those at the end is raised,
-- and they begin anew
abbrev pub AreNextOctets : List ℕ → ℕ → List ℕ → Type 0
AreNextOctets octets zero next = next ≡ replicate (length octets + 1) 97
AreNextOctets octets (suc place) next =
    (octet : ℕ) × IsOctetBehind (slice_index_or octets place 0) octet
    × (next ≡ take place octets ++ octet ∷ replicate (length octets - suc place) 97)

-- the next label is the first behind this one
pub record IsLabelBehind (label next : List ℕ) : Type 0 where
  pub is_label : IsLabel next
  pub behind : trial_cmp label next ≡ Less
  pub first : (other : List ℕ) → IsLabel other → trial_cmp other next ≡ Less → (other ≡ label) ⊎ (trial_cmp other label ≡ Less)

-- the label that is tried next, or none where all others are tried before
abbrev pub IsNextLabel : List ℕ → Option (List ℕ) → Type 0
IsNextLabel label found =
    MatchOption found ((other : List ℕ) → IsLabel other → (other ≡ label) ⊎ (trial_cmp other label ≡ Less)) (IsLabelBehind label)
