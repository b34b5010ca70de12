-- The data of each type, from the tokens behind the type's word (RFC 1035 sections 3.3, 3.4 and 5.1, RFC 3597
-- section 5). The number of tokens is looked at first, then the fields from left to right.
use Rattle.std.specs.Prelude.{ℕ, ◌*◌, Bool, false, ◌&&◌, not, nat_eq, List, [], ◌∷◌, map, length, codes, Option, Some, None, Result, Ok, Err, if◌then◌else◌, ◌==◌}
use Rattle.std.specs.List.{list_all, concat}
use lib.Pointwise.{pointwise}
use Rattle.dns_data.specs.Answers.{◌>>=◌, with_fault}
use Rattle.dns_data.specs.Name.{Labels}
use Rattle.dns_data.specs.Spelling.{name_of_text}
use Rattle.dns_data.specs.declared.rdata.Rdata.{Rdata}
use Rattle.dns_data.specs.declared.rdata.Rdata.TheVariants as data_of
use Rattle.dns_data.specs.declared.rr_type.RrType.{RrType}
use Rattle.dns_data.specs.declared.rr_type.RrType.TheVariants as types
use Rattle.master_lex.specs.declared.entry.Token.{Token}
use Rattle.dns_data.specs.Number.{number_up_to}
use Rattle.rdata_forms.specs.Numbers.{number_in}
use Rattle.rdata_forms.specs.Times.{time_in}
use Rattle.rdata_forms.specs.Addresses.{ipv4_in, ipv6_in, is_hex}
use Rattle.rdata_forms.specs.Texts.{string_of, tag_of}
use Rattle.rdata_forms.specs.declared.fault.RdataFault.{RdataFault}
use Rattle.rdata_forms.specs.declared.fault.RdataFault.TheVariants.{FieldCount, BadName, BadHex, GenericKnown}

-- the name in a field
abbrev pub name_in : Labels → List ℕ → Result Labels RdataFault
name_in origin text = with_fault BadName (name_of_text text origin)

-- an IPv4 address (RFC 1035 section 3.4.1)
abbrev pub a_of : List (List ℕ) → Result Rdata RdataFault
a_of (field ∷ []) = do
  address ← ipv4_in field
  Ok (data_of.A address)
a_of fields = Err FieldCount

-- an IPv6 address (RFC 3596 section 2.4)
abbrev pub aaaa_of : List (List ℕ) → Result Rdata RdataFault
aaaa_of (field ∷ []) = do
  address ← ipv6_in field
  Ok (data_of.Aaaa address)
aaaa_of fields = Err FieldCount

-- data that are one name: NS, CNAME, PTR and DNAME
abbrev pub one_name : Labels → List (List ℕ) → Result Labels RdataFault
one_name origin (field ∷ []) = name_in origin field
one_name origin fields = Err FieldCount

-- a name server (RFC 1035 section 3.3.11)
abbrev pub ns_of : Labels → List (List ℕ) → Result Rdata RdataFault
ns_of origin fields = do
  target ← one_name origin fields
  Ok (data_of.Ns target)

-- a canonical name (RFC 1035 section 3.3.1)
abbrev pub cname_of : Labels → List (List ℕ) → Result Rdata RdataFault
cname_of origin fields = do
  target ← one_name origin fields
  Ok (data_of.Cname target)

-- a pointer (RFC 1035 section 3.3.12)
abbrev pub ptr_of : Labels → List (List ℕ) → Result Rdata RdataFault
ptr_of origin fields = do
  target ← one_name origin fields
  Ok (data_of.Ptr target)

-- a redirection of a subtree (RFC 6672 section 2.1)
abbrev pub dname_of : Labels → List (List ℕ) → Result Rdata RdataFault
dname_of origin fields = do
  target ← one_name origin fields
  Ok (data_of.Dname target)

-- a start of authority: two names, a number and four times (RFC 1035 section 3.3.13)
abbrev pub soa_of : Labels → List (List ℕ) → Result Rdata RdataFault
soa_of origin (a ∷ b ∷ c ∷ d ∷ e ∷ f ∷ g ∷ []) = do
  mname ← name_in origin a
  rname ← name_in origin b
  serial ← number_in 4294967295 c
  refresh ← time_in d
  retry ← time_in e
  expire ← time_in f
  minimum ← time_in g
  Ok (data_of.Soa mname rname serial refresh retry expire minimum)
soa_of origin fields = Err FieldCount

-- a processor and an operating system (RFC 1035 section 3.3.2)
abbrev pub hinfo_of : List (List ℕ) → Result Rdata RdataFault
hinfo_of (a ∷ b ∷ []) = do
  cpu ← string_of 255 a
  os ← string_of 255 b
  Ok (data_of.Hinfo cpu os)
hinfo_of fields = Err FieldCount

-- a mail exchange: a number and a name (RFC 1035 section 3.3.9)
abbrev pub mx_of : Labels → List (List ℕ) → Result Rdata RdataFault
mx_of origin (a ∷ b ∷ []) = do
  preference ← number_in 65535 a
  exchange ← name_in origin b
  Ok (data_of.Mx preference exchange)
mx_of origin fields = Err FieldCount

-- the character strings that the fields spell, or the first fault
abbrev pub strings_of : List (List ℕ) → Result (List (List ℕ)) RdataFault
strings_of [] = Ok []
strings_of (field ∷ fields) = do
  text ← string_of 255 field
  texts ← strings_of fields
  Ok (text ∷ texts)

-- one or more texts (RFC 1035 section 3.3.14)
abbrev pub txt_of : List (List ℕ) → Result Rdata RdataFault
txt_of [] = Err FieldCount
txt_of (field ∷ fields) = do
  texts ← strings_of (field ∷ fields)
  Ok (data_of.Txt texts)

-- the place of a service: three numbers and a name (RFC 2782)
abbrev pub srv_of : Labels → List (List ℕ) → Result Rdata RdataFault
srv_of origin (a ∷ b ∷ c ∷ d ∷ []) = do
  priority ← number_in 65535 a
  weight ← number_in 65535 b
  port ← number_in 65535 c
  target ← name_in origin d
  Ok (data_of.Srv priority weight port target)
srv_of origin fields = Err FieldCount

-- which authorities may issue certificates: a number, a tag and a string (RFC 8659 section 4.1)
abbrev pub caa_of : List (List ℕ) → Result Rdata RdataFault
caa_of (a ∷ b ∷ c ∷ []) = do
  flags ← number_in 255 a
  tag ← tag_of b
  value ← string_of 1024 c
  Ok (data_of.Caa flags tag value)
caa_of fields = Err FieldCount

-- the data of a type, from the fields as they are written
abbrev pub fields_of : RrType → List (List ℕ) → Labels → Result Rdata RdataFault
fields_of types.A fields origin = a_of fields
fields_of types.Ns fields origin = ns_of origin fields
fields_of types.Cname fields origin = cname_of origin fields
fields_of types.Soa fields origin = soa_of origin fields
fields_of types.Ptr fields origin = ptr_of origin fields
fields_of types.Hinfo fields origin = hinfo_of fields
fields_of types.Mx fields origin = mx_of origin fields
fields_of types.Txt fields origin = txt_of fields
fields_of types.Aaaa fields origin = aaaa_of fields
fields_of types.Srv fields origin = srv_of origin fields
fields_of types.Dname fields origin = dname_of origin fields
fields_of types.Caa fields origin = caa_of fields

-- the tokens as they are written
abbrev pub written : List Token → List (List ℕ)
written tokens = map (λ token. token.raw) tokens

-- the first token isn't quoted and reads `\#`, which begins the generic form (RFC 3597 section 5)
abbrev pub is_generic : List Token → Bool
is_generic [] = false
is_generic (first ∷ rest) = not first.quoted && pointwise nat_eq first.raw (codes "\\#")

-- the data of a type that these tokens stand for under an origin, or why they stand for none
abbrev pub rdata_of : RrType → List Token → Labels → Result Rdata RdataFault
rdata_of rtype tokens origin =
    if is_generic tokens then Err GenericKnown else fields_of rtype (written tokens) origin

-- the digits put together are exactly twice so many hexadecimal digits
abbrev pub has_octets : Option ℕ → List (List ℕ) → Bool
has_octets None digits = false
has_octets (Some octets) digits = list_all is_hex (concat digits) && (length (concat digits) == 2 * octets)

-- behind `\#` stand a length of one to five digits up to 65,535 and so many octets in hexadecimal
abbrev pub is_generic_form : List (List ℕ) → Bool
is_generic_form (mark ∷ octets ∷ digits) = has_octets (number_up_to 5 65535 octets) digits
is_generic_form fields = false

-- the data of another type: its tokens as they are written, in a sound generic form or in none
abbrev pub other_of : List ℕ → List Token → Result Rdata RdataFault
other_of word tokens =
    if is_generic tokens && not (is_generic_form (written tokens)) then Err BadHex
    else Ok (data_of.Other word (written tokens))
