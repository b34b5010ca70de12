-- What is compared of two copies of a zone. TTLs aren't; records of the types RRSIG, NSEC and NSEC3 aren't kept.
use Rattle.std.specs.Prelude.{ℕ, Bool, false, ◌&&◌, not, List, [], ◌∷◌, ◌++◌, map, Option, Some, None, option_map, if◌then◌else◌, ◌==◌}
use Rattle.std.specs.Cmp.Lexicographic.{slice_cmp}
use Rattle.std.specs.List.{filter, find, flat_map}
use Rattle.std.specs.Option.{option_map_or}
use Rattle.std.specs.Ordering.{nat_cmp}
use Rattle.std.specs.declared.cmp.Ordering.{Ordering}
use Rattle.dns_data.specs.DataText.{data_text}
use Rattle.dns_data.specs.Name.{name_eq}
use Rattle.dns_data.specs.Rdata.{has_type, strings_eq, type_of_data}
use Rattle.dns_data.specs.RrType.{number_of}
use Rattle.dns_data.specs.Spelling.{name_text}
use Rattle.dns_data.specs.declared.rdata.Rdata.{Rdata}
use Rattle.dns_data.specs.declared.rdata.Rdata.TheVariants.{Other, Soa}
use Rattle.dns_data.specs.declared.rdata.Rr.{Rr}
use Rattle.dns_data.specs.declared.rr_type.RrType.TheVariants as types
use Rattle.net_model.specs.declared.config.Zone.{Zone}
use Rattle.net_model.specs.Order.{in_order}
use Rattle.kept_data.specs.Numbers.{kept_number}
use Rattle.kept_data.specs.Octets.{kept_octets, two_octets}
use Rattle.zone_copies.specs.Serials.{is_less}
use Rattle.zone_copies.specs.declared.version.Version.{Version}
use Rattle.zone_copies.specs.declared.version.CopyWord.{CopyWord}
use Rattle.zone_copies.specs.declared.version.CopyWord.TheVariants.{Same, Renumbered, Behind, Ahead, Forgotten, Apart}

-- the number of a type's word; each record that was read has a word of which the number is known
abbrev pub other_number : List ℕ → ℕ
other_number word = option_map_or (λ number. number) (kept_number word) 0

-- what data of a type beyond the twelve are compared by: their octets, where these are known, else their tokens, each with
-- a line feed behind it, which no token has; a first octet tells which
abbrev pub tokens_or_octets : List (List ℕ) → Option (List ℕ) → List ℕ
tokens_or_octets tokens (Some octets) = 1 ∷ octets
tokens_or_octets tokens None = 0 ∷ flat_map (λ token. token ++ 10 ∷ []) tokens

-- the number of the data's type
abbrev pub data_number : Rdata → ℕ
data_number (Other word tokens) = other_number word
data_number rdata = option_map_or number_of (type_of_data rdata) 0

-- what data are compared by, beside the number of their type
abbrev pub compared_data : Rdata → List ℕ
compared_data (Other word tokens) = tokens_or_octets tokens (kept_octets (other_number word) tokens)
compared_data rdata = data_text rdata

-- what a record is compared by: its owner, the number of its type and its data
abbrev pub compared : Rr → List ℕ
compared rr = name_text rr.owner ++ 32 ∷ two_octets (data_number rr.rdata) ++ compared_data rr.rdata

-- the record starts the zone's authority
abbrev pub is_soa : Rr → Bool
is_soa rr = has_type types.Soa rr.rdata

-- the order of octets
abbrev pub octets_cmp : List ℕ → List ℕ → Ordering
octets_cmp a b = slice_cmp nat_cmp a b

-- what the records other than the SOA record are compared by, in order, each once
abbrev pub others_of : List Rr → List (List ℕ)
others_of rrs = in_order octets_cmp (map compared (filter (λ rr. not (is_soa rr)) rrs))

-- the data of the SOA record; a zone that was read has one
abbrev pub soa_of : List Rr → Option Rdata
soa_of rrs = option_map (λ rr. rr.rdata) (find is_soa rrs)

-- what is compared of a zone: its SOA record and the others
abbrev pub version_of : Zone → Version
version_of zone = record { soa = soa_of zone.rrs; others = others_of zone.rrs }

-- the serial of SOA data, 0 where there are none
abbrev pub serial_in : Option Rdata → ℕ
serial_in (Some (Soa mname rname serial refresh retry expire minimum)) = serial
serial_in soa = 0

-- SOA data are equal but for the serial
abbrev pub same_start : Rdata → Rdata → Bool
same_start (Soa m r serial refresh retry expire minimum) (Soa m' r' serial' refresh' retry' expire' minimum') =
    name_eq m m' && name_eq r r' && (refresh == refresh') && (retry == retry') && (expire == expire') && (minimum == minimum')
same_start a b = false

-- both have SOA data, and these are equal but for the serial
abbrev pub same_starts : Option Rdata → Option Rdata → Bool
same_starts (Some a) (Some b) = same_start a b
same_starts a b = false

-- the two are equal but for the SOA record
abbrev pub are_equal_copies : Version → Version → Bool
are_equal_copies a b = strings_eq a.others b.others

-- the two are equal but for the serial
abbrev pub differ_in_serial_alone : Version → Version → Bool
differ_in_serial_alone a b = same_starts a.soa b.soa && strings_eq a.others b.others

-- how a copy stands to the first one by its serial, where they differ in more than that
abbrev pub word_by_serials : ℕ → ℕ → CopyWord
word_by_serials first own =
    if is_less own first then Behind
    else (if is_less first own then Ahead else (if own == first then Forgotten else Apart))

-- how a copy stands to the first one
abbrev pub copy_word : Version → Version → CopyWord
copy_word first own =
    if differ_in_serial_alone first own then (if serial_in own.soa == serial_in first.soa then Same else Renumbered)
    else word_by_serials (serial_in first.soa) (serial_in own.soa)
