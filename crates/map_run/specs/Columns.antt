-- Lines of columns, with tabs between them.
use Rattle.std.specs.Prelude.{ℕ, Bool, true, false, not, ◌&&◌, nat_le, List, [], ◌∷◌, ◌++◌, codes, if◌then◌else◌, ◌==◌}
use Rattle.std.specs.List.{flat_map}
use Rattle.dns_data.specs.DataText.{separated}
use Rattle.dns_data.specs.Octet.{decimal_escape, escaped_as}
use Rattle.config_load.specs.FileName.{shown_octet}

-- a tab
abbrev pub tab : List ℕ
tab = 9 ∷ []

-- a line of columns
abbrev pub columns_line : List (List ℕ) → List ℕ
columns_line columns = separated tab columns ++ codes "\n"

-- an octet of a file's name: as lines for people show it, but for a backslash, which stands behind one
abbrev pub file_octet_text : ℕ → List ℕ
file_octet_text octet = if octet == 92 then codes "\\\\" else shown_octet octet

-- the name of a file
abbrev pub file_text : List ℕ → List ℕ
file_text name = flat_map file_octet_text name

-- the octet is printable and no space
abbrev pub is_plain : ℕ → Bool
is_plain octet = nat_le 33 octet && nat_le octet 126

-- an octet of a token as it was written; a space, and one that isn't printable, stand in three digits behind a backslash
abbrev pub written_octet : ℕ → List ℕ
written_octet octet = escaped_as false (is_plain octet) octet

-- the octet is a backslash that is written with the next octet
abbrev pub is_held : Bool → ℕ → Bool
is_held escaped octet = not escaped && (octet == 92)

-- What is written at an octet, behind a backslash that isn't written yet or without one: what stands in digits has a
-- backslash of its own.
abbrev pub next_written : Bool → ℕ → List ℕ
next_written false octet = if octet == 92 then [] else written_octet octet
next_written true octet = if is_plain octet then 92 ∷ octet ∷ [] else decimal_escape octet

-- what is written of octets, behind a backslash that isn't written yet or without one
abbrev pub written_from : Bool → List ℕ → List ℕ
written_from escaped [] = if escaped then 92 ∷ [] else []
written_from escaped (octet ∷ octets) = next_written escaped octet ++ written_from (is_held escaped octet) octets

-- a token as it was written
abbrev pub as_written : List ℕ → List ℕ
as_written token = written_from false token
