-- What the standards print, and what is read of it.
use Rattle.std.specs.Prelude.{◌≡◌, refl, ℕ, List, [], ◌∷◌, ◌++◌, map, replicate, codes, Some, None, Err}
use Rattle.std.specs.Str.{is_utf8, chars}
use Rattle.dns_data.specs.declared.rdata.Rdata.TheVariants.{A, Ns, Soa, Mx}
use Rattle.dns_data.specs.declared.rdata.Rr.{Rr}
use Rattle.dns_data.specs.declared.rr_type.RrType.TheVariants as types
use Rattle.rdata_forms.specs.declared.fault.RdataFault.TheVariants.{GenericKnown}
use Rattle.master_read.specs.Directives.{directive_of, include_directive}
use Rattle.master_read.specs.Entries.{record_of, owner_of, front_in, one_more, type_said, data_behind, made_of}
use Rattle.master_read.specs.Words.{type_word, type_numbered, class_word, is_some_word}
use Rattle.master_read.specs.ZoneText.{Asks, effect_of, included, with_entry, with_entries, with_rest, zone_text}
use Rattle.master_read.specs.declared.fault.TextCause.TheVariants.{NotIn as OtherClass, Rdata as BadData}
use Rattle.master_read.specs.declared.words.ClassWord.TheVariants.{In, NotIn}
use Rattle.master_read.specs.declared.words.TypeWord.TheVariants.{Known, Dropped, Other}
use Rattle.master_read.proofs.Worked.Words.{alone, context_with, entry, lines, name, reads, rr, tokens}

-- RFC 3597 section 5: types and classes by their numbers
type_731 : type_word (codes "TYPE731") ≡ Some Other
unfolding type_word is_some_word type_numbered
type_731 = refl

type_62347 : type_word (codes "TYPE62347") ≡ Some Other
unfolding type_word is_some_word type_numbered
type_62347 = refl

type_1 : type_word (codes "TYPE1") ≡ Some (Known types.A)
unfolding type_word is_some_word type_numbered
type_1 = refl

class_32 : class_word (codes "CLASS32") ≡ Some NotIn
unfolding class_word is_some_word
class_32 = refl

class_1 : class_word (codes "CLASS1") ≡ Some In
unfolding class_word is_some_word
class_1 = refl

-- records of its examples: one of another class, and an address in the generic form
of_class_32 :
    record_of 0 (context_with [] (Some 7) None None) (entry 1 (tokens "a.example. CLASS32 TYPE731 \\# 6 abcd ef 01 23 45"))
    ≡ Err OtherClass
unfolding record_of owner_of front_in one_more class_word is_some_word
of_class_32 = refl

a_generic_address :
    record_of 0 (context_with [] (Some 7) None None) (entry 1 (tokens "e.example. IN A \\# 4 0A000001"))
    ≡ Err (BadData GenericKnown)
unfolding record_of owner_of front_in one_more data_behind type_said type_word class_word is_some_word
a_generic_address = refl

-- RFC 4034 sections 3 and 4, RFC 5155 sections 3 and 4: the numbers of RRSIG, NSEC and NSEC3, and of NSEC3PARAM
dropped_by_number : map type_word (codes "TYPE46" ∷ codes "TYPE47" ∷ codes "TYPE50" ∷ []) ≡ replicate 3 (Some Dropped)
unfolding type_word is_some_word
dropped_by_number = refl

nsec3param : type_word (codes "TYPE51") ≡ Some Other
unfolding type_word is_some_word type_numbered
nsec3param = refl

-- RFC 1035 section 5.3: the file that defines the zone ISI.EDU, without its last line
abbrev pub isi_edu : List ℕ
isi_edu = lines
    (codes "@   IN  SOA     VENERA      Action\\.domains ("
    ∷ codes "                                 20     ; SERIAL"
    ∷ codes "                                 7200   ; REFRESH"
    ∷ codes "                                 600    ; RETRY"
    ∷ codes "                                 3600000; EXPIRE"
    ∷ codes "                                 60)    ; MINIMUM"
    ∷ []
    ∷ codes "        NS      A.ISI.EDU."
    ∷ codes "        NS      VENERA"
    ∷ codes "        NS      VAXA"
    ∷ codes "        MX      10      VENERA"
    ∷ codes "        MX      20      VAXA"
    ∷ []
    ∷ codes "A       A       26.3.0.103"
    ∷ []
    ∷ codes "VENERA  A       10.1.0.52"
    ∷ codes "        A       128.9.0.32"
    ∷ []
    ∷ codes "VAXA    A       10.2.0.27"
    ∷ codes "        A       128.9.0.33"
    ∷ []
    ∷ [])

-- the records of ISI.EDU, all with the MINIMUM of the start of authority
abbrev isi_edu_records : List Rr
isi_edu_records =
    rr (name "isi.edu") 60
    (Soa (name "venera.isi.edu") (codes "edu" ∷ codes "isi" ∷ codes "action.domains" ∷ []) 20 7200 600 3600000 60) 1
    ∷ rr (name "isi.edu") 60 (Ns (name "a.isi.edu")) 8
    ∷ rr (name "isi.edu") 60 (Ns (name "venera.isi.edu")) 9
    ∷ rr (name "isi.edu") 60 (Ns (name "vaxa.isi.edu")) 10
    ∷ rr (name "isi.edu") 60 (Mx 10 (name "venera.isi.edu")) 11
    ∷ rr (name "isi.edu") 60 (Mx 20 (name "vaxa.isi.edu")) 12
    ∷ rr (name "a.isi.edu") 60 (A (26 ∷ 3 ∷ 0 ∷ 103 ∷ [])) 14
    ∷ rr (name "venera.isi.edu") 60 (A (10 ∷ 1 ∷ 0 ∷ 52 ∷ [])) 16
    ∷ rr (name "venera.isi.edu") 60 (A (128 ∷ 9 ∷ 0 ∷ 32 ∷ [])) 17
    ∷ rr (name "vaxa.isi.edu") 60 (A (10 ∷ 2 ∷ 0 ∷ 27 ∷ [])) 19
    ∷ rr (name "vaxa.isi.edu") 60 (A (128 ∷ 9 ∷ 0 ∷ 33 ∷ [])) 20
    ∷ []

isi_edu_reads : alone (name "isi.edu") 11 isi_edu ≡ reads isi_edu_records 11
unfolding zone_text with_rest with_entries with_entry effect_of record_of owner_of front_in one_more type_said data_behind made_of type_word class_word is_some_word directive_of
isi_edu_reads = refl

-- the last line of the file of ISI.EDU includes another file, which is asked for
isi_edu_includes :
    zone_text (name "isi.edu") 11 1 ((isi_edu ++ codes "$INCLUDE <SUBSYS>ISI-MAILBOXES.TXT") ∷ [])
    ≡ Err (Asks (codes "<SUBSYS>ISI-MAILBOXES.TXT"))
unfolding zone_text with_rest with_entries with_entry effect_of record_of owner_of front_in one_more type_said data_behind made_of type_word class_word is_some_word directive_of include_directive included is_utf8 chars lib.Utf8.encode
isi_edu_includes = refl
