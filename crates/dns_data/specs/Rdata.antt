-- The types of records and of their data, and which data are equal.
use Rattle.std.specs.Prelude.{◌≡◌, ℕ, ◌<◌, ◌^◌, Bool, false, ◌&&◌, nat_eq, List, length, Option, Some, None, ◌==◌}
use Rattle.std.specs.List.{AllByRecursion}
use lib.Pointwise.{pointwise}
use Rattle.dns_data.specs.Name.{IsName, name_eq}
use Rattle.dns_data.specs.RrType.{type_eq}
use Rattle.dns_data.specs.declared.rdata.Rdata.{Rdata}
use Rattle.dns_data.specs.declared.rdata.Rdata.TheVariants as data_of
use Rattle.dns_data.specs.declared.rr_type.RrType.{RrType}
use Rattle.dns_data.specs.declared.rr_type.RrType.TheVariants as types

-- the type of data, unless it is none of the twelve
abbrev pub type_of_data : Rdata → Option RrType
type_of_data (data_of.A address) = Some types.A
type_of_data (data_of.Ns target) = Some types.Ns
type_of_data (data_of.Cname target) = Some types.Cname
type_of_data (data_of.Soa mname rname serial refresh retry expire minimum) = Some types.Soa
type_of_data (data_of.Ptr target) = Some types.Ptr
type_of_data (data_of.Hinfo cpu os) = Some types.Hinfo
type_of_data (data_of.Mx preference exchange) = Some types.Mx
type_of_data (data_of.Txt texts) = Some types.Txt
type_of_data (data_of.Aaaa address) = Some types.Aaaa
type_of_data (data_of.Srv priority weight port target) = Some types.Srv
type_of_data (data_of.Dname target) = Some types.Dname
type_of_data (data_of.Caa flags tag value) = Some types.Caa
type_of_data (data_of.Other word tokens) = None

-- whether data are of a type
abbrev pub has_type : RrType → Rdata → Bool
has_type rtype rdata = has_some_type rtype (type_of_data rdata) where
  has_some_type : RrType → Option RrType → Bool
  has_some_type rtype None = false
  has_some_type rtype (Some other) = type_eq rtype other

-- octets are equal, each beside each
abbrev pub octets_eq : List ℕ → List ℕ → Bool
octets_eq a b = pointwise nat_eq a b

-- the strings of two lists are equal, each beside each
abbrev pub strings_eq : List (List ℕ) → List (List ℕ) → Bool
strings_eq a b = pointwise octets_eq a b

-- type and data are equal
abbrev pub data_eq : Rdata → Rdata → Bool
data_eq (data_of.A a) (data_of.A b) = octets_eq a b
data_eq (data_of.Ns a) (data_of.Ns b) = name_eq a b
data_eq (data_of.Cname a) (data_of.Cname b) = name_eq a b
data_eq (data_of.Soa m r serial refresh retry expire minimum) (data_of.Soa m' r' serial' refresh' retry' expire' minimum') =
    name_eq m m' && name_eq r r' && (serial == serial') && (refresh == refresh') && (retry == retry')
    && (expire == expire') && (minimum == minimum')
data_eq (data_of.Ptr a) (data_of.Ptr b) = name_eq a b
data_eq (data_of.Hinfo cpu os) (data_of.Hinfo cpu' os') = octets_eq cpu cpu' && octets_eq os os'
data_eq (data_of.Mx preference exchange) (data_of.Mx preference' exchange') =
    (preference == preference') && name_eq exchange exchange'
data_eq (data_of.Txt a) (data_of.Txt b) = strings_eq a b
data_eq (data_of.Aaaa a) (data_of.Aaaa b) = octets_eq a b
data_eq (data_of.Srv priority weight port target) (data_of.Srv priority' weight' port' target') =
    (priority == priority') && (weight == weight') && (port == port') && name_eq target target'
data_eq (data_of.Dname a) (data_of.Dname b) = name_eq a b
data_eq (data_of.Caa flags tag value) (data_of.Caa flags' tag' value') =
    (flags == flags') && octets_eq tag tag' && octets_eq value value'
data_eq (data_of.Other word tokens) (data_of.Other word' tokens') = octets_eq word word' && strings_eq tokens tokens'
data_eq a b = false

-- octets, each below 256
abbrev pub AreOctets : List ℕ → Type 0
AreOctets octets = AllByRecursion (λ octet. octet < 256) octets

-- what data of each type hold: addresses of 4 and of 16 octets, names, strings of octets, and numbers of one, two and
-- four octets
abbrev pub IsData : Rdata → Type 0
IsData (data_of.A address) = (length address ≡ 4) × AreOctets address
IsData (data_of.Ns target) = IsName target
IsData (data_of.Cname target) = IsName target
IsData (data_of.Soa mname rname serial refresh retry expire minimum) =
    IsName mname × IsName rname × (serial < 2 ^ 32) × (refresh < 2 ^ 32) × (retry < 2 ^ 32) × (expire < 2 ^ 32)
    × (minimum < 2 ^ 32)
IsData (data_of.Ptr target) = IsName target
IsData (data_of.Hinfo cpu os) = AreOctets cpu × AreOctets os
IsData (data_of.Mx preference exchange) = (preference < 2 ^ 16) × IsName exchange
IsData (data_of.Txt texts) = AllByRecursion AreOctets texts
IsData (data_of.Aaaa address) = (length address ≡ 16) × AreOctets address
IsData (data_of.Srv priority weight port target) = (priority < 2 ^ 16) × (weight < 2 ^ 16) × (port < 2 ^ 16) × IsName target
IsData (data_of.Dname target) = IsName target
IsData (data_of.Caa flags tag value) = (flags < 2 ^ 8) × AreOctets tag × AreOctets value
IsData (data_of.Other word tokens) = AreOctets word × AllByRecursion AreOctets tokens
