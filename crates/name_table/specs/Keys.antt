-- Numbers of names that mostly tell their order. Public clauses cite `IsKeyBelow` alone.
use Rattle.std.specs.Prelude.{◌≡◌, ℕ, ◌<◌, List, [], ◌∷◌, ◌++◌, length, slice_index}
use Rattle.std.specs.Int.{w64, from_be_bytes}
use Rattle.dns_data.specs.Label.{IsLabel}
use Rattle.dns_data.specs.Name.{Labels}
use Rattle.name_table.specs.Table.{name_at}

-- the first eight octets of a label, with zeros behind those of a shorter one
abbrev pub first_octets : List ℕ → List ℕ
first_octets label =
    slice_index label 0 ∷ slice_index label 1 ∷ slice_index label 2 ∷ slice_index label 3
    ∷ slice_index label 4 ∷ slice_index label 5 ∷ slice_index label 6 ∷ slice_index label 7 ∷ []

-- the number that they write, the most significant octet first
abbrev pub label_key : List ℕ → ℕ
label_key label = from_be_bytes w64 (first_octets label)

-- the key is the number of the first label, or 0 where there is none
abbrev pub IsKey : Labels → ℕ → Type 0
IsKey [] key = key ≡ 0
IsKey (label ∷ labels) key = IsLabel label × (key ≡ label_key label)

-- the key is that of the labels that the name has below another
pub record IsKeyBelow (above name : Labels) (key : ℕ) : Type 0 where
  pub below : Labels
  pub is : above ++ below ≡ name
  pub is_key : IsKey below key

-- beside each name stands the key of what it has below the first
pub record AreKeyed (names : List Labels) (keys : List ℕ) : Type 0 where
  pub many : length keys ≡ length names
  pub each : (k : ℕ) → k < length names → IsKeyBelow (name_at names 0) (name_at names k) (slice_index keys k)
