-- The numbers of types by the words under which data are kept, and those of algorithms by their words.
use Rattle.std.specs.Prelude.{ℕ, List, [], ◌∷◌, codes, take, drop, Option, None, find, option_map, if◌then◌else◌}
use Rattle.std.specs.Option.{option_or}
use Rattle.dns_data.specs.Number.{number_up_to}
use Rattle.dns_data.specs.Octet.{is_word}

-- the number beside a word in a table, in any case
unfoldable pub number_of_word : {N : Type 0} → List (List ℕ × N) → List ℕ → Option N
number_of_word table octets = option_map (λ one. one.1) (find (λ one. is_word one.0 octets) table)

-- the types beyond the twelve that have a word: IANA's registry of resource record types
abbrev pub type_words : List (List ℕ × ℕ)
type_words =
    (codes "AFSDB", 18) ∷ (codes "APL", 42) ∷ (codes "CDNSKEY", 60) ∷ (codes "CDS", 59) ∷ (codes "CERT", 37)
    ∷ (codes "CSYNC", 62) ∷ (codes "DHCID", 49) ∷ (codes "DLV", 32769) ∷ (codes "DNSKEY", 48) ∷ (codes "DS", 43)
    ∷ (codes "EUI48", 108) ∷ (codes "EUI64", 109) ∷ (codes "HIP", 55) ∷ (codes "HTTPS", 65) ∷ (codes "IPSECKEY", 45)
    ∷ (codes "KEY", 25) ∷ (codes "KX", 36) ∷ (codes "LOC", 29) ∷ (codes "NAPTR", 35) ∷ (codes "NSEC3PARAM", 51)
    ∷ (codes "OPENPGPKEY", 61) ∷ (codes "RP", 17) ∷ (codes "SMIMEA", 53) ∷ (codes "SPF", 99) ∷ (codes "SSHFP", 44)
    ∷ (codes "SVCB", 64) ∷ (codes "TLSA", 52) ∷ (codes "URI", 256) ∷ (codes "ZONEMD", 63) ∷ []

-- the number of one to five digits, up to 65,535, behind `TYPE` (RFC 3597 section 5)
abbrev pub number_behind_type : List ℕ → Option ℕ
number_behind_type word = if is_word (codes "TYPE") (take 4 word) then number_up_to 5 65535 (drop 4 word) else None

-- the number of the type with this word
unfoldable pub kept_number : List ℕ → Option ℕ
kept_number word = option_or (number_of_word type_words word) (number_behind_type word)

-- the algorithms of keys and signatures: IANA's registry of DNS Security algorithm numbers
abbrev pub algorithm_words : List (List ℕ × ℕ)
algorithm_words =
    (codes "DELETE", 0) ∷ (codes "RSAMD5", 1) ∷ (codes "DH", 2) ∷ (codes "DSA", 3) ∷ (codes "RSASHA1", 5)
    ∷ (codes "DSA-NSEC3-SHA1", 6) ∷ (codes "RSASHA1-NSEC3-SHA1", 7) ∷ (codes "RSASHA256", 8) ∷ (codes "RSASHA512", 10)
    ∷ (codes "ECC-GOST", 12) ∷ (codes "ECDSAP256SHA256", 13) ∷ (codes "ECDSAP384SHA384", 14) ∷ (codes "ED25519", 15)
    ∷ (codes "ED448", 16) ∷ (codes "SM2SM3", 17) ∷ (codes "ECC-GOST12", 23) ∷ (codes "INDIRECT", 252)
    ∷ (codes "PRIVATEDNS", 253) ∷ (codes "PRIVATEOID", 254) ∷ []

-- the algorithm that a field names, in decimal digits or by its word (RFC 4034 section 2.2)
unfoldable pub algorithm_in : List ℕ → Option ℕ
algorithm_in text = option_or (number_up_to 10 255 text) (number_of_word algorithm_words text)
