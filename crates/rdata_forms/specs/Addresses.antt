-- The texts of addresses: how the address that one stands for is worked out (RFC 1035 section 3.4.1, RFC 4291
-- section 2.2). What texts stand for stands in AddressTexts, and a law ties the two.
use Rattle.std.specs.Prelude.{ℕ, ◌+◌, ◌-◌, ◌*◌, ◌/◌, ◌%◌, Bool, true, false, ◌&&◌, ◌||◌, nat_le, List, [], ◌∷◌, ◌++◌, length, replicate, Option, Some, None, option_map, Result, if◌then◌else◌, ◌==◌}
use Rattle.std.specs.List.{list_all, slice_split}
use Rattle.std.specs.Option.{ok_or}
use Rattle.dns_data.specs.Octet.{is_digit}
use Rattle.dns_data.specs.Options.{◌>>=◌}
use Rattle.dns_data.specs.Number.{number_up_to}
use Rattle.rdata_forms.specs.declared.fault.RdataFault.{RdataFault}
use Rattle.rdata_forms.specs.declared.fault.RdataFault.TheVariants.{BadAddress}

-- 0 to 9, A to F or a to f
abbrev pub is_hex : ℕ → Bool
is_hex octet = (is_digit octet || (nat_le 65 octet && nat_le octet 70)) || (nat_le 97 octet && nat_le octet 102)

-- the value of a hexadecimal digit; it is asked of no other octet
abbrev pub hex_digit : ℕ → ℕ
hex_digit octet = if is_digit octet then octet - 48 else (if nat_le 97 octet then octet - 87 else octet - 55)

-- the value of hexadecimal digits that stand behind others of this value
abbrev pub hex_after : ℕ → List ℕ → ℕ
hex_after value [] = value
hex_after value (digit ∷ digits) = hex_after (value * 16 + hex_digit digit) digits

-- one to four hexadecimal digits
abbrev pub is_group : List ℕ → Bool
is_group text = nat_le 1 (length text) && nat_le (length text) 4 && list_all is_hex text

-- the two octets of a group, the higher first
abbrev pub group_octets : List ℕ → List ℕ
group_octets digits = hex_after 0 digits / 256 ∷ hex_after 0 digits % 256 ∷ []

-- the pieces between separators: one more than there are separators
abbrev pub split_on : ℕ → List ℕ → List (List ℕ)
split_on separator octets = slice_split (λ octet. octet == separator) octets

-- the digits begin with a zero that others follow
abbrev pub has_leading_zero : List ℕ → Bool
has_leading_zero (first ∷ second ∷ rest) = first == 48
has_leading_zero digits = false

-- a number of an IPv4 address: one to three digits up to 255, without a leading zero
abbrev pub part_of : List ℕ → Option ℕ
part_of part = if has_leading_zero part then None else number_up_to 3 255 part

-- the IPv4 address of four parts
abbrev pub ipv4_of_parts : List (List ℕ) → Option (List ℕ)
ipv4_of_parts (a ∷ b ∷ c ∷ d ∷ []) = do
  first ← part_of a
  second ← part_of b
  third ← part_of c
  fourth ← part_of d
  Some (first ∷ second ∷ third ∷ fourth ∷ [])
ipv4_of_parts parts = None

-- the IPv4 address that a text stands for
abbrev pub ipv4_of : List ℕ → Option (List ℕ)
ipv4_of text = ipv4_of_parts (split_on 46 text)

-- the two octets of a group
abbrev pub group_of : List ℕ → Option (List ℕ)
group_of text = if is_group text then Some (group_octets text) else None

-- the octets of the last piece: a group, or an IPv4 address where the piece ends the text
abbrev pub last_of : Bool → List ℕ → Option (List ℕ)
last_of ends text = if is_group text then Some (group_octets text) else (if ends then ipv4_of text else None)

-- the octets of pieces with colons between them; there is always a piece, so the first line is never reached
abbrev pub octets_of_pieces : Bool → List (List ℕ) → Option (List ℕ)
octets_of_pieces ends [] = Some []
octets_of_pieces ends (piece ∷ []) = last_of ends piece
octets_of_pieces ends (piece ∷ next ∷ pieces) = do
  octets ← group_of piece
  others ← octets_of_pieces ends (next ∷ pieces)
  Some (octets ++ others)

-- the octets of one or more pieces
abbrev pub octets_of : Bool → List ℕ → Option (List ℕ)
octets_of ends text = octets_of_pieces ends (split_on 58 text)

-- the octets of a side of a `::`, where there may be no piece
abbrev pub side_of : Bool → List ℕ → Option (List ℕ)
side_of ends text = if length text == 0 then Some [] else octets_of ends text

-- what stands before a `::` and behind it
pub record Sides : Type 0 where
  pub front : List ℕ
  pub back : List ℕ

-- the sides, with this octet before them
abbrev pub after_octet : ℕ → Sides → Sides
after_octet octet sides = record { front = octet ∷ sides.front; back = sides.back }

-- the sides of the first `::`
abbrev pub sides_of : List ℕ → Option Sides
sides_of [] = None
sides_of (first ∷ []) = None
sides_of (first ∷ second ∷ rest) =
    if first == 58 && second == 58 then Some (record { front = []; back = rest })
    else option_map (after_octet first) (sides_of (second ∷ rest))

-- the address, if it has all sixteen octets
abbrev pub if_whole : List ℕ → Option (List ℕ)
if_whole octets = if length octets == 16 then Some octets else None

-- the address with zeros for the `::`, which stands for at least one group
abbrev pub with_zero_groups : List ℕ → List ℕ → Option (List ℕ)
with_zero_groups front back =
    if nat_le (length front + length back) 14
    then Some (front ++ (replicate (16 - (length front + length back)) 0 ++ back))
    else None

-- the IPv6 address of the sides of a `::`, or of the whole text where there is none
abbrev pub ipv6_of_sides : List ℕ → Option Sides → Option (List ℕ)
ipv6_of_sides text None = octets_of true text >>= if_whole
ipv6_of_sides text (Some sides) = do
  front ← side_of false sides.front
  back ← side_of true sides.back
  with_zero_groups front back

-- the IPv6 address that a text stands for
abbrev pub ipv6_of : List ℕ → Option (List ℕ)
ipv6_of text = ipv6_of_sides text (sides_of text)

-- an IPv4 address in a field of data
abbrev pub ipv4_in : List ℕ → Result (List ℕ) RdataFault
ipv4_in text = ok_or (ipv4_of text) BadAddress

-- an IPv6 address in a field of data
abbrev pub ipv6_in : List ℕ → Result (List ℕ) RdataFault
ipv6_in text = ok_or (ipv6_of text) BadAddress
