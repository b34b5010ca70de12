-- Strings and tags (RFC 1035 section 5.1, RFC 8659 section 4.1).
use Rattle.std.specs.Prelude.{ℕ, Bool, ◌&&◌, ◌||◌, nat_le, nat_lt, List, [], ◌∷◌, map, length, Result, Ok, Err, if◌then◌else◌}
use Rattle.std.specs.List.{list_all, flat_map}
use Rattle.dns_data.specs.Octet.{is_digit, is_upper, is_lower, folded}
use Rattle.dns_data.specs.Spelling.{Sign, Dot, Octet, Broken, signs}
use Rattle.rdata_forms.specs.declared.fault.RdataFault.{RdataFault}
use Rattle.rdata_forms.specs.declared.fault.RdataFault.TheVariants.{BadNumber, TextTooLong}

-- the octet that a sign of a text stands for; none stands behind a backslash that spells nothing
abbrev pub sign_octets : Sign → List ℕ
sign_octets Dot = 46 ∷ []
sign_octets (Octet value) = value ∷ []
sign_octets Broken = []

-- the octets of a text with its escapes resolved
abbrev pub resolved : List ℕ → List ℕ
resolved text = flat_map sign_octets (signs text)

-- the string that a token stands for, if it has at most so many octets
abbrev pub string_of : ℕ → List ℕ → Result (List ℕ) RdataFault
string_of most text = if nat_lt most (length (resolved text)) then Err TextTooLong else Ok (resolved text)

-- a letter or a digit
abbrev pub is_tag_octet : ℕ → Bool
is_tag_octet octet = (is_digit octet || is_upper octet) || is_lower octet

-- a property tag: 1 to 255 letters and digits, folded (RFC 8659 section 4.1)
abbrev pub tag_of : List ℕ → Result (List ℕ) RdataFault
tag_of text =
    if nat_lt 255 (length text) then Err TextTooLong
    else (if nat_le 1 (length text) && list_all is_tag_octet text then Ok (map folded text) else Err BadNumber)
