-- The name of a file, as lines for people show it: a control character in it can't begin a line of its own or steer a
-- terminal.
use Rattle.std.specs.Prelude.{ℕ, Bool, ◌||◌, nat_lt, List, [], ◌∷◌, codes, if◌then◌else◌, ◌==◌}
use Rattle.std.specs.List.{flat_map}
use Rattle.dns_data.specs.Octet.{decimal_escape}

-- the octet is a control character (RFC 20 section 5.2)
abbrev pub is_control : ℕ → Bool
is_control octet = nat_lt octet 32 || octet == 127

-- an octet of a file's name: of the control characters a tab and a line feed stand as letters behind a backslash, and any
-- other as its number in three digits behind one
abbrev pub shown_octet : ℕ → List ℕ
shown_octet octet =
    if octet == 9 then codes "\\t"
    else (if octet == 10 then codes "\\n" else (if is_control octet then decimal_escape octet else octet ∷ []))

-- the name of a file
abbrev pub shown_file : List ℕ → List ℕ
shown_file name = flat_map shown_octet name
