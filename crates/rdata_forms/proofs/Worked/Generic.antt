-- Data of other types, in the generic form and otherwise (RFC 3597 section 5).
use Rattle.std.specs.Prelude.{◌≡◌, refl, [], ◌∷◌, codes, Ok, Err}
use Rattle.dns_data.specs.declared.rdata.Rdata.TheVariants.{Other}
use Rattle.rdata_forms.specs.Forms.{other_of}
use Rattle.rdata_forms.specs.declared.fault.RdataFault.TheVariants.{BadHex}
use Rattle.rdata_forms.proofs.Worked.Words.{in_quotes, token, tokens}

-- the examples of RFC 3597 section 5: the digits may be cut into words in any way
six_octets :
    other_of (codes "TYPE731") (tokens "\\# 6 abcd ef 01 23 45")
    ≡ Ok (Other (codes "TYPE731") (codes "\\#" ∷ codes "6" ∷ codes "abcd" ∷ codes "ef" ∷ codes "01" ∷ codes "23" ∷ codes "45" ∷ []))
six_octets = refl

no_octets : other_of (codes "TYPE62347") (tokens "\\# 0") ≡ Ok (Other (codes "TYPE62347") (codes "\\#" ∷ codes "0" ∷ []))
no_octets = refl

-- an octet may be cut in two, and digits stand in either case
half_octets : other_of (codes "DS") (tokens "\\# 2 a B0f") ≡ Ok (Other (codes "DS") (codes "\\#" ∷ codes "2" ∷ codes "a" ∷ codes "B0f" ∷ []))
half_octets = refl

-- the length and the digits may stand in quotes
quoted : other_of (codes "DS") (token "\\#" ∷ in_quotes "00001" ∷ in_quotes "ff" ∷ []) ≡ Ok (Other (codes "DS") (codes "\\#" ∷ codes "00001" ∷ codes "ff" ∷ []))
quoted = refl

-- what is no generic form
no_length : other_of (codes "DS") (tokens "\\#") ≡ Err BadHex
no_length = refl

too_few_digits : other_of (codes "DS") (tokens "\\# 2 abc") ≡ Err BadHex
too_few_digits = refl

too_many_digits : other_of (codes "DS") (tokens "\\# 1 ab c") ≡ Err BadHex
too_many_digits = refl

digits_behind_none : other_of (codes "DS") (tokens "\\# 0 ab") ≡ Err BadHex
digits_behind_none = refl

no_digit : other_of (codes "DS") (tokens "\\# 1 ag") ≡ Err BadHex
no_digit = refl

an_escaped_digit : other_of (codes "DS") (tokens "\\# 1 \\ab") ≡ Err BadHex
an_escaped_digit = refl

a_length_of_six_digits : other_of (codes "DS") (tokens "\\# 000001 ab") ≡ Err BadHex
a_length_of_six_digits = refl

a_length_over : other_of (codes "DS") (tokens "\\# 65536 ab") ≡ Err BadHex
a_length_over = refl

a_hexadecimal_length : other_of (codes "DS") (tokens "\\# a ab") ≡ Err BadHex
a_hexadecimal_length = refl

-- other tokens are kept as they are written, without their quotes, and there may be none
a_fingerprint : other_of (codes "SSHFP") (tokens "1 1 ab") ≡ Ok (Other (codes "SSHFP") (codes "1" ∷ codes "1" ∷ codes "ab" ∷ []))
a_fingerprint = refl

escapes_stay : other_of (codes "SPF") (in_quotes "\\065 \\\"" ∷ []) ≡ Ok (Other (codes "SPF") (codes "\\065 \\\"" ∷ []))
escapes_stay = refl

no_token : other_of (codes "APL") [] ≡ Ok (Other (codes "APL") [])
no_token = refl

-- a mark in quotes, or behind another token, begins no generic form
a_quoted_mark : other_of (codes "DS") (in_quotes "\\#" ∷ token "zz" ∷ []) ≡ Ok (Other (codes "DS") (codes "\\#" ∷ codes "zz" ∷ []))
a_quoted_mark = refl

a_mark_behind : other_of (codes "DS") (tokens "1 \\# zz") ≡ Ok (Other (codes "DS") (codes "1" ∷ codes "\\#" ∷ codes "zz" ∷ []))
a_mark_behind = refl
