-- The words of types, classes and directives, which are read without regard to case
-- (RFC 1035 sections 3.2 and 5.1, RFC 3597 section 5).
use Rattle.std.specs.Prelude.{ℕ, Bool, ◌||◌, List, [], ◌∷◌, length, take, drop, codes, find, option_map, ◌==◌, if◌then◌else◌, Option, Some, None}
use Rattle.std.specs.List.{list_any}
use Rattle.dns_data.specs.Octet.{is_word}
use Rattle.dns_data.specs.RrType.{number_of, types, type_of_word}
use Rattle.dns_data.specs.declared.rr_type.RrType.{RrType}
use Rattle.dns_data.specs.Number.{number_up_to}
use Rattle.master_read.specs.declared.words.TypeWord.{TypeWord}
use Rattle.master_read.specs.declared.words.TypeWord.TheVariants.{Known, Dropped, Other}
use Rattle.master_read.specs.declared.words.ClassWord.{ClassWord}
use Rattle.master_read.specs.declared.words.ClassWord.TheVariants.{In, NotIn}

-- the octets are one of these words
unfoldable pub is_some_word : List (List ℕ) → List ℕ → Bool
is_some_word words octets = list_any (λ word. is_word word octets) words

-- the words of the types whose records are dropped: they sign or chain what a signer makes of a zone
abbrev pub dropped_words : List (List ℕ)
dropped_words = codes "RRSIG" ∷ codes "NSEC" ∷ codes "NSEC3" ∷ []

-- the words of the other types whose records are kept as they are written
abbrev pub other_words : List (List ℕ)
other_words =
    codes "AFSDB" ∷ codes "APL" ∷ codes "CDNSKEY" ∷ codes "CDS" ∷ codes "CERT" ∷ codes "CSYNC" ∷ codes "DHCID"
    ∷ codes "DLV" ∷ codes "DNSKEY" ∷ codes "DS" ∷ codes "EUI48" ∷ codes "EUI64" ∷ codes "HIP" ∷ codes "HTTPS"
    ∷ codes "IPSECKEY" ∷ codes "KEY" ∷ codes "KX" ∷ codes "LOC" ∷ codes "NAPTR" ∷ codes "NSEC3PARAM"
    ∷ codes "OPENPGPKEY" ∷ codes "RP" ∷ codes "SMIMEA" ∷ codes "SPF" ∷ codes "SSHFP" ∷ codes "SVCB" ∷ codes "TLSA"
    ∷ codes "URI" ∷ codes "ZONEMD" ∷ []

-- the number of one to five digits, up to 65,535, behind a word
abbrev pub number_behind : List ℕ → List ℕ → Option ℕ
number_behind word octets =
    if is_word word (take (length word) octets) then number_up_to 5 65535 (drop (length word) octets) else None

-- the type that is one of the twelve, or one whose records are kept under the word
abbrev pub known_or_other : Option RrType → TypeWord
known_or_other None = Other
known_or_other (Some rtype) = Known rtype

-- the type of the twelve that has this number
unfoldable pub type_numbered : ℕ → Option RrType
type_numbered number = find (λ rtype. number_of rtype == number) types

-- what the number of a type says: RRSIG is 46, NSEC 47, NSEC3 50
abbrev pub type_with : ℕ → TypeWord
type_with number =
    if (number == 46) || (number == 47) || (number == 50) then Dropped
    else known_or_other (type_numbered number)

-- what the word of a type says that isn't one of the twelve
abbrev pub other_type_word : List ℕ → Option TypeWord
other_type_word octets =
    if is_some_word dropped_words octets then Some Dropped
    else (if is_some_word other_words octets then Some Other else option_map type_with (number_behind (codes "TYPE") octets))

-- the word of one of the twelve types, or of another
abbrev pub known_or_other_word : Option RrType → List ℕ → Option TypeWord
known_or_other_word (Some rtype) octets = Some (Known rtype)
known_or_other_word None octets = other_type_word octets

-- what the word of a type says
unfoldable pub type_word : List ℕ → Option TypeWord
type_word octets = known_or_other_word (type_of_word octets) octets

-- what the word of a class says
unfoldable pub class_word : List ℕ → Option ClassWord
class_word octets =
    if is_some_word (codes "IN" ∷ codes "CLASS1" ∷ []) octets then Some In
    else (if is_some_word (codes "CS" ∷ codes "CH" ∷ codes "HS" ∷ []) octets then Some NotIn
    else option_map (λ number. NotIn) (number_behind (codes "CLASS") octets))
