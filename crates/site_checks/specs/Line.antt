-- Lines of findings.
use Rattle.std.specs.Prelude.{ℕ, Bool, ◌&&◌, nat_le, List, if◌then◌else◌, Option, Some, None}
use Rattle.std.specs.List.{list_all}

-- an octet that may stand in a line: a printable one of ASCII
abbrev pub is_line_octet : ℕ → Bool
is_line_octet octet = nat_le 32 octet && nat_le octet 126

-- each octet may stand in a line
abbrev pub is_line : List ℕ → Bool
is_line octets = list_all is_line_octet octets

-- the line with these octets, if they may stand in one
abbrev pub line_of : List ℕ → Option (List ℕ)
line_of octets = if is_line octets then Some octets else None
