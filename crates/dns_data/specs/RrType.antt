-- The twelve record types, their numbers and words.
use Rattle.std.specs.Prelude.{ℕ, Bool, List, [], ◌∷◌, codes, Option, ◌==◌}
use Rattle.std.specs.List.{find}
use Rattle.dns_data.specs.Octet.{is_word}
use Rattle.dns_data.specs.declared.rr_type.RrType.{RrType}
use Rattle.dns_data.specs.declared.rr_type.RrType.TheVariants.{A, Ns, Cname, Soa, Ptr, Hinfo, Mx, Txt, Aaaa, Srv, Dname, Caa}

-- the number of a type
abbrev pub number_of : RrType → ℕ
number_of A = 1
number_of Ns = 2
number_of Cname = 5
number_of Soa = 6
number_of Ptr = 12
number_of Hinfo = 13
number_of Mx = 15
number_of Txt = 16
number_of Aaaa = 28
number_of Srv = 33
number_of Dname = 39
number_of Caa = 257

-- the word of a type, in upper case
abbrev pub word_of : RrType → List ℕ
word_of A = codes "A"
word_of Ns = codes "NS"
word_of Cname = codes "CNAME"
word_of Soa = codes "SOA"
word_of Ptr = codes "PTR"
word_of Hinfo = codes "HINFO"
word_of Mx = codes "MX"
word_of Txt = codes "TXT"
word_of Aaaa = codes "AAAA"
word_of Srv = codes "SRV"
word_of Dname = codes "DNAME"
word_of Caa = codes "CAA"

-- the twelve types in the order of their numbers
abbrev pub types : List RrType
types = A ∷ Ns ∷ Cname ∷ Soa ∷ Ptr ∷ Hinfo ∷ Mx ∷ Txt ∷ Aaaa ∷ Srv ∷ Dname ∷ Caa ∷ []

-- two types are one
abbrev pub type_eq : RrType → RrType → Bool
type_eq a b = number_of a == number_of b

-- the type with this word, in any case
abbrev pub type_of_word : List ℕ → Option RrType
type_of_word word = find (λ rtype. is_word (word_of rtype) word) types
