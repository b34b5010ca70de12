-- What words of types say.
use Rattle.std.specs.Prelude.{◌≡◌, refl, [], ◌∷◌, map, replicate, codes, Some, None}
use Rattle.dns_data.specs.RrType.{types as twelve, word_of}
use Rattle.dns_data.specs.declared.rr_type.RrType.TheVariants as types
use Rattle.master_read.specs.Words.{type_word, is_some_word, type_numbered}
use Rattle.master_read.specs.declared.words.TypeWord.TheVariants.{Known, Dropped, Other}

-- the twelve types have their words
the_twelve : map (λ rtype. type_word (word_of rtype)) twelve ≡ map (λ rtype. Some (Known rtype)) twelve
unfolding type_word
the_twelve = refl

-- in any case
small_letters : type_word (codes "aaaa") ≡ Some (Known types.Aaaa)
unfolding type_word
small_letters = refl

mixed_letters : type_word (codes "cName") ≡ Some (Known types.Cname)
unfolding type_word
mixed_letters = refl

-- the types whose records are dropped
dropped :
    map type_word (codes "RRSIG" ∷ codes "NSEC" ∷ codes "NSEC3" ∷ codes "rrsig" ∷ codes "Nsec" ∷ codes "nsec3" ∷ [])
    ≡ replicate 6 (Some Dropped)
unfolding type_word is_some_word
dropped = refl

-- other types, whose records are kept
kept :
    map type_word
    (codes "AFSDB" ∷ codes "APL" ∷ codes "CDNSKEY" ∷ codes "CDS" ∷ codes "CERT" ∷ codes "CSYNC" ∷ codes "DHCID" ∷ codes "DLV"
    ∷ codes "DNSKEY" ∷ codes "DS" ∷ codes "EUI48" ∷ codes "EUI64" ∷ codes "HIP" ∷ codes "HTTPS" ∷ codes "IPSECKEY" ∷ codes "KEY"
    ∷ codes "KX" ∷ codes "LOC" ∷ codes "NAPTR" ∷ codes "NSEC3PARAM" ∷ codes "OPENPGPKEY" ∷ codes "RP" ∷ codes "SMIMEA"
    ∷ codes "SPF" ∷ codes "SSHFP" ∷ codes "SVCB" ∷ codes "TLSA" ∷ codes "URI" ∷ codes "ZONEMD" ∷ [])
    ≡ replicate 29 (Some Other)
unfolding type_word is_some_word
kept = refl

kept_in_small_letters : type_word (codes "sshfp") ≡ Some Other
unfolding type_word is_some_word
kept_in_small_letters = refl

-- a type by its number, which is that type where it is one of the twelve
start_by_number : type_word (codes "TYPE6") ≡ Some (Known types.Soa)
unfolding type_word is_some_word type_numbered
start_by_number = refl

caa_by_number : type_word (codes "type257") ≡ Some (Known types.Caa)
unfolding type_word is_some_word type_numbered
caa_by_number = refl

leading_zeros : type_word (codes "TYPE00028") ≡ Some (Known types.Aaaa)
unfolding type_word is_some_word type_numbered
leading_zeros = refl

-- the numbers of RRSIG and NSEC3 in mixed letters and with zeros in front
dropped_by_number :
    map type_word (codes "Type50" ∷ codes "TYPE046" ∷ codes "TYPE00050" ∷ []) ≡ replicate 3 (Some Dropped)
unfolding type_word is_some_word
dropped_by_number = refl

-- numbers beside those, of types with a word, of none, and the first and the last
kept_by_number :
    map type_word
    (codes "TYPE0" ∷ codes "TYPE3" ∷ codes "TYPE43" ∷ codes "TYPE45" ∷ codes "TYPE48" ∷ codes "TYPE49" ∷ codes "TYPE065"
    ∷ codes "TYPE256" ∷ codes "TYPE258" ∷ codes "TYPE65535" ∷ [])
    ≡ replicate 10 (Some Other)
unfolding type_word is_some_word type_numbered
kept_by_number = refl

-- what says nothing: a number over, six digits, no digit, other octets
no_numbers :
    map type_word
    (codes "TYPE65536" ∷ codes "TYPE99999" ∷ codes "TYPE000001" ∷ codes "TYPE" ∷ codes "TYP1" ∷ codes "TYPE1a" ∷ codes "TYPE-1"
    ∷ codes "TYPE 1" ∷ codes "1" ∷ [])
    ≡ replicate 9 None
unfolding type_word is_some_word
no_numbers = refl

-- words of questions and of classes, words of other types, other spellings, no octet
no_words :
    map type_word
    (codes "ANY" ∷ codes "AXFR" ∷ codes "IN" ∷ codes "NULL" ∷ codes "MB" ∷ codes "MD" ∷ codes "SIG" ∷ codes "NXT" ∷ codes "AA"
    ∷ codes "\\A" ∷ codes "\\065" ∷ codes "NSE" ∷ codes "NSEC33" ∷ codes "$TTL" ∷ [] ∷ [])
    ≡ replicate 15 None
unfolding type_word is_some_word
no_words = refl
