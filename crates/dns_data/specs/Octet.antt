-- Octets of ASCII text, and how one is printed where it can't stand as it is.
use Rattle.std.specs.Prelude.{ℕ, ◌+◌, ◌-◌, ◌*◌, ◌/◌, ◌%◌, Bool, ◌&&◌, nat_eq, nat_le, List, [], ◌∷◌, map, if◌then◌else◌}
use lib.Pointwise.{pointwise}

-- the octet is a letter A to Z
abbrev pub is_upper : ℕ → Bool
is_upper octet = nat_le 65 octet && nat_le octet 90

-- the octet is a letter a to z
abbrev pub is_lower : ℕ → Bool
is_lower octet = nat_le 97 octet && nat_le octet 122

-- the octet is a digit 0 to 9
abbrev pub is_digit : ℕ → Bool
is_digit octet = nat_le 48 octet && nat_le octet 57

-- an octet with A to Z folded to a to z (RFC 4343 section 3)
abbrev pub folded : ℕ → ℕ
folded octet = if is_upper octet then octet + 32 else octet

-- an octet with a to z raised to A to Z
abbrev pub raised : ℕ → ℕ
raised octet = if is_lower octet then octet - 32 else octet

-- the octets are this word, in any case (RFC 4343 section 3)
abbrev pub is_word : List ℕ → List ℕ → Bool
is_word word octets = pointwise nat_eq (map folded word) (map folded octets)

-- the number that decimal digits write behind others of this value
abbrev pub digits_after : ℕ → List ℕ → ℕ
digits_after value [] = value
digits_after value (digit ∷ digits) = digits_after (value * 10 + (digit - 48)) digits

-- the number that three decimal digits write
abbrev pub three_digit_value : ℕ → ℕ → ℕ → ℕ
three_digit_value a b c = digits_after 0 (a ∷ b ∷ c ∷ [])

-- a backslash, and the octet's number in three decimal digits (RFC 1035 section 5.1)
abbrev pub decimal_escape : ℕ → List ℕ
decimal_escape octet = 92 ∷ (48 + octet / 100) ∷ (48 + octet / 10 % 10) ∷ (48 + octet % 10) ∷ []

-- an octet of a text: behind a backslash where it has a meaning of its own there, as it is where it may stand, or else
-- in three digits (RFC 1035 section 5.1)
abbrev pub escaped_as : Bool → Bool → ℕ → List ℕ
escaped_as has_meaning may_stand octet =
    if has_meaning then 92 ∷ octet ∷ [] else (if may_stand then octet ∷ [] else decimal_escape octet)
