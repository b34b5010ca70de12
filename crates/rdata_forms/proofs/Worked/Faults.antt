-- Which fault of data counts: the generic form's first, then that of the number of fields, then that of the first
-- field that has one.
use Rattle.std.specs.Prelude.{◌≡◌, refl, [], ◌∷◌, replicate, codes, Ok, Err}
use Rattle.dns_data.specs.declared.fault.NameFault.TheVariants.{EmptyLabel, LabelTooLong, NameTooLong, BadEscape}
use Rattle.dns_data.specs.declared.rdata.Rdata.TheVariants.{Caa}
use Rattle.dns_data.specs.declared.rr_type.RrType.TheVariants as types
use Rattle.rdata_forms.specs.Forms.{rdata_of}
use Rattle.rdata_forms.specs.declared.fault.RdataFault.TheVariants.{FieldCount, BadNumber, BadAddress, BadName, TextTooLong, GenericKnown}
use Rattle.rdata_forms.proofs.Worked.Words.{bare, in_quotes, token, tokens}

-- RFC 3597 section 5: an address in the generic form, which isn't read for a type that has a form of its own
a_generic_address : rdata_of types.A (tokens "\\# 4 0A000001") [] ≡ Err GenericKnown
a_generic_address = refl

-- the mark alone is looked at before the number of fields
a_mark_alone : rdata_of types.Soa (tokens "\\#") [] ≡ Err GenericKnown
a_mark_alone = refl

-- a mark in quotes is a field
a_quoted_mark : rdata_of types.A (in_quotes "\\#" ∷ token "4" ∷ token "0A000001" ∷ []) [] ≡ Err FieldCount
a_quoted_mark = refl

-- other spellings of `#` are no mark
a_bare_mark : rdata_of types.A (tokens "#") [] ≡ Err BadAddress
a_bare_mark = refl

a_mark_by_number : rdata_of types.A (tokens "\\035") [] ≡ Err BadAddress
a_mark_by_number = refl

-- the number of fields of each type
no_address : rdata_of types.A [] [] ≡ Err FieldCount
no_address = refl

two_addresses : rdata_of types.A (tokens "10.0.0.1 10.0.0.2") [] ≡ Err FieldCount
two_addresses = refl

two_ipv6_addresses : rdata_of types.Aaaa (tokens "::1 ::2") [] ≡ Err FieldCount
two_ipv6_addresses = refl

two_servers : rdata_of types.Ns (tokens "a. b.") [] ≡ Err FieldCount
two_servers = refl

no_alias : rdata_of types.Cname [] [] ≡ Err FieldCount
no_alias = refl

no_pointer : rdata_of types.Ptr [] [] ≡ Err FieldCount
no_pointer = refl

two_redirections : rdata_of types.Dname (tokens "a. b.") [] ≡ Err FieldCount
two_redirections = refl

six_fields : rdata_of types.Soa (tokens "a. b. 1 2 3 4") [] ≡ Err FieldCount
six_fields = refl

eight_fields : rdata_of types.Soa (tokens "a. b. 1 2 3 4 5 6") [] ≡ Err FieldCount
eight_fields = refl

no_operating_system : rdata_of types.Hinfo (tokens "VAX") [] ≡ Err FieldCount
no_operating_system = refl

no_exchange : rdata_of types.Mx (tokens "10") [] ≡ Err FieldCount
no_exchange = refl

no_text : rdata_of types.Txt [] [] ≡ Err FieldCount
no_text = refl

no_target : rdata_of types.Srv (tokens "0 0 0") [] ≡ Err FieldCount
no_target = refl

no_value : rdata_of types.Caa (tokens "0 issue") [] ≡ Err FieldCount
no_value = refl

two_values : rdata_of types.Caa (tokens "0 issue ca1 ca2") [] ≡ Err FieldCount
two_values = refl

-- the number of fields counts before what stands in them
a_bad_field_too_many : rdata_of types.A (tokens "10.0.0.256 x") [] ≡ Err FieldCount
a_bad_field_too_many = refl

-- no address
an_octet_over : rdata_of types.A (tokens "10.0.0.256") [] ≡ Err BadAddress
an_octet_over = refl

an_ipv4_address : rdata_of types.Aaaa (tokens "10.0.0.1") [] ≡ Err BadAddress
an_ipv4_address = refl

an_escaped_dot : rdata_of types.A (tokens "10\\.0.0.1") [] ≡ Err BadAddress
an_escaped_dot = refl

-- no name, for each reason
an_empty_name : rdata_of types.Ns (in_quotes "" ∷ []) [] ≡ Err (BadName EmptyLabel)
an_empty_name = refl

two_dots : rdata_of types.Cname (tokens "a..b") [] ≡ Err (BadName EmptyLabel)
two_dots = refl

a_long_label : rdata_of types.Ptr (bare (replicate 64 97) ∷ []) [] ≡ Err (BadName LabelTooLong)
a_long_label = refl

half_an_escape : rdata_of types.Dname (tokens "a\\25") [] ≡ Err (BadName BadEscape)
half_an_escape = refl

a_long_name :
    rdata_of types.Ns (bare (replicate 63 97) ∷ []) (replicate 63 98 ∷ replicate 63 99 ∷ replicate 63 100 ∷ [])
    ≡ Err (BadName NameTooLong)
a_long_name = refl

-- from left to right
the_first_name_counts : rdata_of types.Soa (tokens "a..b c\\ x 2 3 4 5") [] ≡ Err (BadName EmptyLabel)
the_first_name_counts = refl

the_second_name_counts : rdata_of types.Soa (tokens "a. c\\ x 2 3 4 5") [] ≡ Err (BadName BadEscape)
the_second_name_counts = refl

a_serial_number_with_a_unit : rdata_of types.Soa (tokens "a. b. 1h 2 3 4 5") [] ≡ Err BadNumber
a_serial_number_with_a_unit = refl

a_serial_number_over : rdata_of types.Soa (tokens "a. b. 4294967296 2 3 4 5") [] ≡ Err BadNumber
a_serial_number_over = refl

a_time_over : rdata_of types.Soa (tokens "a. b. 1 2 3 4 2147483648") [] ≡ Err BadNumber
a_time_over = refl

a_preference_over : rdata_of types.Mx (tokens "65536 a..b") [] ≡ Err BadNumber
a_preference_over = refl

fields_exchanged : rdata_of types.Mx (tokens "mail 10") [] ≡ Err BadNumber
fields_exchanged = refl

an_escaped_digit : rdata_of types.Mx (tokens "\\049 b") [] ≡ Err BadNumber
an_escaped_digit = refl

a_bad_exchange : rdata_of types.Mx (tokens "65535 a..b") [] ≡ Err (BadName EmptyLabel)
a_bad_exchange = refl

a_port_over : rdata_of types.Srv (tokens "65535 65535 65536 a..b") [] ≡ Err BadNumber
a_port_over = refl

a_bad_target : rdata_of types.Srv (tokens "65535 65535 65535 a..b") [] ≡ Err (BadName EmptyLabel)
a_bad_target = refl

-- texts
a_long_processor : rdata_of types.Hinfo (bare (replicate 256 97) ∷ token "b" ∷ []) [] ≡ Err TextTooLong
a_long_processor = refl

a_long_text_behind : rdata_of types.Txt (token "a" ∷ bare (replicate 256 97) ∷ []) [] ≡ Err TextTooLong
a_long_text_behind = refl

-- flags, then the tag, then the value, which may have 1,024 octets
flags_over : rdata_of types.Caa (tokens "256 a-b c") [] ≡ Err BadNumber
flags_over = refl

a_bad_tag : rdata_of types.Caa (token "255" ∷ token "a-b" ∷ bare (replicate 1025 97) ∷ []) [] ≡ Err BadNumber
a_bad_tag = refl

a_long_value : rdata_of types.Caa (token "0" ∷ token "a" ∷ bare (replicate 1024 97) ∷ []) [] ≡ Ok (Caa 0 (codes "a") (replicate 1024 97))
a_long_value = refl

too_long_a_value : rdata_of types.Caa (token "0" ∷ token "a" ∷ bare (replicate 1025 97) ∷ []) [] ≡ Err TextTooLong
too_long_a_value = refl
