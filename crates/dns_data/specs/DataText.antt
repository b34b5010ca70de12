-- The texts of record data (RFC 1035 section 5.1, RFC 3596 section 2.4, RFC 8659 section 4.1.1).
use Rattle.std.specs.Prelude.{ℕ, ◌+◌, ◌*◌, false, ◌&&◌, ◌||◌, nat_le, List, [], ◌∷◌, ◌++◌, map, slice_index, codes, ◌==◌}
use Rattle.std.specs.List.{flat_map}
use Rattle.std.specs.Fmt.{decimal, digits}
use Rattle.dns_data.specs.Octet.{escaped_as}
use Rattle.dns_data.specs.Spelling.{name_text}
use Rattle.dns_data.specs.declared.rdata.Rdata.{Rdata}
use Rattle.dns_data.specs.declared.rdata.Rdata.TheVariants.{A, Ns, Cname, Soa, Ptr, Hinfo, Mx, Txt, Aaaa, Srv, Dname, Caa, Other}

-- texts with a separator between them
abbrev pub separated : List ℕ → List (List ℕ) → List ℕ
separated between [] = []
separated between (text ∷ texts) = text ++ flat_map (λ next. between ++ next) texts

-- an octet of a string, as text
abbrev pub string_octet_text : ℕ → List ℕ
string_octet_text octet = escaped_as ((octet == 34) || (octet == 92)) (nat_le 32 octet && nat_le octet 126) octet

-- the octets of a string, as text
abbrev pub plain : List ℕ → List ℕ
plain octets = flat_map string_octet_text octets

-- a string in its quotes
abbrev pub quoted : List ℕ → List ℕ
quoted octets = codes "\"" ++ plain octets ++ codes "\""

-- eight groups of an IPv6 address, each of two octets
abbrev pub groups : List ℕ → List (List ℕ)
groups (high ∷ low ∷ octets) = digits 16 false (high * 256 + low) ∷ groups octets
groups octets = []

-- the text of data. That of the data of another type is not told.
abbrev pub data_text : Rdata → List ℕ
data_text (A address) = separated (codes ".") (decimal (slice_index address 0) ∷ decimal (slice_index address 1)
    ∷ decimal (slice_index address 2) ∷ decimal (slice_index address 3) ∷ [])
data_text (Ns target) = name_text target
data_text (Cname target) = name_text target
data_text (Soa mname rname serial refresh retry expire minimum) =
    separated (codes " ") (name_text mname ∷ name_text rname ∷ decimal serial ∷ decimal refresh ∷ decimal retry
    ∷ decimal expire ∷ decimal minimum ∷ [])
data_text (Ptr target) = name_text target
data_text (Hinfo cpu os) = separated (codes " ") (quoted cpu ∷ quoted os ∷ [])
data_text (Mx preference exchange) = separated (codes " ") (decimal preference ∷ name_text exchange ∷ [])
data_text (Txt texts) = separated (codes " ") (map quoted texts)
data_text (Aaaa address) = separated (codes ":") (groups address)
data_text (Srv priority weight port target) =
    separated (codes " ") (decimal priority ∷ decimal weight ∷ decimal port ∷ name_text target ∷ [])
data_text (Dname target) = name_text target
data_text (Caa flags tag value) = separated (codes " ") (decimal flags ∷ plain tag ∷ quoted value ∷ [])
data_text (Other word tokens) = []
