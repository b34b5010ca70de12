-- Marks by the numbers of names: for the contracts of the code's searches alone.
use Rattle.std.specs.Prelude.{◌≡◌, ◌%◌, ℕ, Bool, true, false, List, length, slice_index_or}
use Rattle.std.specs.Hash.FoldHasher.{initial, write, finish}
use Rattle.dns_data.specs.Encoding.{encoded}
use Rattle.dns_data.specs.Name.{Labels, is_among}

-- the place of a name's mark among so many
abbrev pub place_of : ℕ → Labels → ℕ
place_of size name = finish (write initial (encoded name)) % size

-- the name's mark is set
abbrev pub is_marked : List Bool → Labels → Bool
is_marked marks name = slice_index_or marks (place_of (length marks) name) false

-- the mark of each of these names is set
abbrev pub MarksAll : List Labels → List Bool → Type 0
MarksAll names marks = (name : Labels) → is_among names name ≡ true → is_marked marks name ≡ true
