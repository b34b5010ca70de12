-- Strings and tags.
use Rattle.std.specs.Prelude.{◌≡◌, refl, [], ◌∷◌, replicate, codes, Ok, Err}
use Rattle.rdata_forms.specs.Texts.{string_of, tag_of}
use Rattle.rdata_forms.specs.declared.fault.RdataFault.TheVariants.{BadNumber, TextTooLong}

-- a string may be empty
empty : string_of 255 (codes "") ≡ Ok []
empty = refl

-- letters of a string stay as they are, and dots are octets as others
as_it_is : string_of 255 (codes "v=x; Y. z") ≡ Ok (codes "v=x; Y. z")
as_it_is = refl

-- an octet behind a backslash, and an octet by its number (RFC 1035 section 5.1)
a_quote : string_of 255 (codes "a\\\"b") ≡ Ok (codes "a\"b")
a_quote = refl

a_backslash : string_of 255 (codes "a\\\\b") ≡ Ok (codes "a\\b")
a_backslash = refl

a_dot : string_of 255 (codes "a\\.b") ≡ Ok (codes "a.b")
a_dot = refl

a_letter : string_of 255 (codes "\\a") ≡ Ok (codes "a")
a_letter = refl

by_number : string_of 255 (codes "\\065\\000\\255\\009") ≡ Ok (65 ∷ 0 ∷ 255 ∷ 9 ∷ [])
by_number = refl

a_digit_behind_a_number : string_of 255 (codes "\\0651") ≡ Ok (codes "A1")
a_digit_behind_a_number = refl

a_backslash_by_number : string_of 255 (codes "\\092065") ≡ Ok (codes "\\065")
a_backslash_by_number = refl

-- the octets of the string count, not those of its spelling
the_most_octets : string_of 3 (codes "\\065\\066\\067") ≡ Ok (codes "ABC")
the_most_octets = refl

one_octet_over : string_of 3 (codes "ABC\\068") ≡ Err TextTooLong
one_octet_over = refl

-- at the limit of a string of a TXT record
a_long_string : string_of 255 (replicate 255 97) ≡ Ok (replicate 255 97)
a_long_string = refl

too_long_a_string : string_of 255 (replicate 256 97) ≡ Err TextTooLong
too_long_a_string = refl

-- a tag's letters are folded, digits stay (RFC 8659 section 4.1)
a_tag : tag_of (codes "issue") ≡ Ok (codes "issue")
a_tag = refl

folded_tag : tag_of (codes "IssueWild0") ≡ Ok (codes "issuewild0")
folded_tag = refl

-- what is none
no_tag : tag_of (codes "") ≡ Err BadNumber
no_tag = refl

a_hyphen : tag_of (codes "issue-mail") ≡ Err BadNumber
a_hyphen = refl

an_escaped_letter : tag_of (codes "\\issue") ≡ Err BadNumber
an_escaped_letter = refl

-- the octets next to the letters: `@`, `[`, a backquote and `{`
before_capitals : tag_of (codes "a@") ≡ Err BadNumber
before_capitals = refl

behind_capitals : tag_of (codes "a[") ≡ Err BadNumber
behind_capitals = refl

before_letters : tag_of (codes "a`") ≡ Err BadNumber
before_letters = refl

behind_letters : tag_of (codes "a{") ≡ Err BadNumber
behind_letters = refl

-- the length is looked at before the octets
a_long_tag : tag_of (replicate 255 90) ≡ Ok (replicate 255 122)
a_long_tag = refl

too_long_a_tag : tag_of (replicate 256 90) ≡ Err TextTooLong
too_long_a_tag = refl

long_hyphens : tag_of (replicate 256 45) ≡ Err TextTooLong
long_hyphens = refl
