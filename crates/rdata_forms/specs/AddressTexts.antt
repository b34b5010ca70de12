-- The texts of addresses: what each stands for (RFC 1035 section 3.4.1, RFC 4291 section 2.2). A law ties this to how
-- addresses are worked out.
use Rattle.std.specs.Prelude.{◌≡◌, ◌⊎◌, ℕ, ◌+◌, ◌-◌, ◌≤◌, Bool, true, false, nat_lt, List, [], ◌∷◌, ◌++◌, length, map, codes, replicate}
use Rattle.std.specs.List.{list_all, flat_map}
use Rattle.dns_data.specs.DataText.{separated, data_text}
use Rattle.dns_data.specs.declared.rdata.Rdata.TheVariants.{A}
use Rattle.rdata_forms.specs.Addresses.{is_group, group_octets}

-- a value that an octet may have
abbrev pub is_octet : ℕ → Bool
is_octet value = nat_lt value 256

-- A text stands for an IPv4 address where it is that address's own text: four decimal numbers without
-- leading zeros, with dots between.
pub record IsIpv4Text (text address : List ℕ) : Type 0 where
  pub four : length address ≡ 4
  pub octets : list_all is_octet address ≡ true
  pub written : text ≡ data_text (A address)

-- A piece of an IPv6 text: a group of hexadecimal digits, or the last two groups as an IPv4 address.
pub data AddressPiece : Type 0 where
  Group : (digits : List ℕ) → AddressPiece
  Dotted : (address : List ℕ) → AddressPiece

-- a piece as it is written
abbrev pub piece_text : AddressPiece → List ℕ
piece_text (Group digits) = digits
piece_text (Dotted address) = data_text (A address)

-- the octets that a piece stands for
abbrev pub piece_octets : AddressPiece → List ℕ
piece_octets (Group digits) = group_octets digits
piece_octets (Dotted address) = address

-- pieces with colons between them
abbrev pub pieces_text : List AddressPiece → List ℕ
pieces_text pieces = separated (codes ":") (map piece_text pieces)

-- the octets of pieces
abbrev pub pieces_octets : List AddressPiece → List ℕ
pieces_octets pieces = flat_map piece_octets pieces

-- the piece is well formed; an IPv4 address may stand only where it is the text's last piece
abbrev pub IsPiece : Bool → AddressPiece → Type 0
IsPiece last (Group digits) = is_group digits ≡ true
IsPiece last (Dotted address) = (last ≡ true) × (length address ≡ 4) × (list_all is_octet address ≡ true)

-- each piece is well formed; they end the text or stand before a `::`
abbrev pub ArePieces : Bool → List AddressPiece → Type 0
ArePieces ends [] = Unit {0}
ArePieces ends (piece ∷ []) = IsPiece ends piece
ArePieces ends (piece ∷ next ∷ pieces) = IsPiece false piece × ArePieces ends (next ∷ pieces)

-- all sixteen octets are written
pub record IsWholeText (text address : List ℕ) : Type 0 where
  pub pieces : List AddressPiece
  pub well_formed : ArePieces true pieces
  pub written : text ≡ pieces_text pieces
  pub sixteen : length (pieces_octets pieces) ≡ 16
  pub stands_for : address ≡ pieces_octets pieces

-- a `::` stands for one or more groups of zero
pub record IsShortText (text address : List ℕ) : Type 0 where
  pub front : List AddressPiece
  pub back : List AddressPiece
  pub front_well_formed : ArePieces false front
  pub back_well_formed : ArePieces true back
  pub written : text ≡ pieces_text front ++ (codes "::" ++ pieces_text back)
  pub room : length (pieces_octets front) + length (pieces_octets back) ≤ 14
  pub stands_for : address ≡ pieces_octets front
      ++ (replicate (16 - (length (pieces_octets front) + length (pieces_octets back))) 0 ++ pieces_octets back)

-- A text stands for an IPv6 address: eight groups of one to four hexadecimal digits in either case, with
-- colons between; the last two may be an IPv4 address; one `::` may stand for one or more groups of zero.
abbrev pub IsIpv6Text : List ℕ → List ℕ → Type 0
IsIpv6Text text address = IsWholeText text address ⊎ IsShortText text address
