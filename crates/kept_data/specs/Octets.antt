-- The octets of data that are kept as they were written: those of DS and CDS records, of DNSKEY and CDNSKEY records, and
-- those in the generic form (RFC 4034 sections 2.2 and 5.3, RFC 7344 section 3, RFC 3597 section 5).
use Rattle.std.specs.Prelude.{ℕ, ◌/◌, ◌%◌, ◌||◌, Bool, false, List, [], ◌∷◌, ◌++◌, codes, length, Option, Some, None, Result, Ok, Err, if◌then◌else◌, ◌==◌}
use Rattle.std.specs.List.{flat_map}
use Rattle.base64.specs.GeneralPurpose.{decode_of}
use Rattle.base64.specs.Engines.{standard}
use Rattle.hex.specs.Hex as hex
use Rattle.dns_data.specs.Number.{number_up_to}
use Rattle.dns_data.specs.Options.{◌>>=◌}
use Rattle.dns_data.specs.Rdata.{octets_eq}
use Rattle.kept_data.specs.Numbers.{algorithm_in}

-- what a decoding gave, unless it found a fault
abbrev pub if_decoded : {E : Type 0} → Result (List ℕ) E → Option (List ℕ)
if_decoded (Ok octets) = Some octets
if_decoded (Err fault) = None

-- the two octets of a number, the higher first
abbrev pub two_octets : ℕ → List ℕ
two_octets number = number / 256 ∷ number % 256 ∷ []

-- the octets, if there are some
abbrev pub if_some : List ℕ → Option (List ℕ)
if_some octets = if length octets == 0 then None else Some octets

-- texts put together
abbrev pub together : List (List ℕ) → List ℕ
together texts = flat_map (λ text. text) texts

-- the octets that texts write in hexadecimal digits, put together
abbrev pub hex_octets : List (List ℕ) → Option (List ℕ)
hex_octets texts = if_decoded (hex.decode_of (together texts))

-- the octets that texts write in base64 with its padding, put together (RFC 4648 section 4)
abbrev pub base64_octets : List (List ℕ) → Option (List ℕ)
base64_octets texts = if_decoded (decode_of standard (together texts))

-- octets at the front and some behind them
abbrev pub joined : Option (List ℕ) → Option (List ℕ) → Option (List ℕ)
joined front back = do
  front ← front
  back ← back
  back ← if_some back
  Some (front ++ back)

-- the tag and the algorithm of a key and the type of a digest (RFC 4034 section 5.3)
abbrev pub signer_front : List ℕ → List ℕ → List ℕ → Option (List ℕ)
signer_front tag algorithm kind = do
  tag ← number_up_to 10 65535 tag
  algorithm ← algorithm_in algorithm
  kind ← number_up_to 10 255 kind
  Some (two_octets tag ++ algorithm ∷ kind ∷ [])

-- the flags, the protocol and the algorithm of a key (RFC 4034 section 2.2)
abbrev pub key_front : List ℕ → List ℕ → List ℕ → Option (List ℕ)
key_front flags protocol algorithm = do
  flags ← number_up_to 10 65535 flags
  protocol ← number_up_to 10 255 protocol
  algorithm ← algorithm_in algorithm
  Some (two_octets flags ++ protocol ∷ algorithm ∷ [])

-- a delegation's signer: what stands at its front, and a digest in hexadecimal digits
abbrev pub signer_octets : List (List ℕ) → Option (List ℕ)
signer_octets (tag ∷ algorithm ∷ kind ∷ digest) = joined (signer_front tag algorithm kind) (hex_octets digest)
signer_octets fields = None

-- a key: what stands at its front, and its octets in base64
abbrev pub key_octets : List (List ℕ) → Option (List ℕ)
key_octets (flags ∷ protocol ∷ algorithm ∷ key) = joined (key_front flags protocol algorithm) (base64_octets key)
key_octets fields = None

-- the first token begins the generic form
abbrev pub is_generic : List (List ℕ) → Bool
is_generic [] = false
is_generic (first ∷ rest) = octets_eq first (codes "\\#")

-- the octets of data in the generic form: behind its mark stand their number, which those that were read have, and the
-- digits
abbrev pub generic_octets : List (List ℕ) → Option (List ℕ)
generic_octets (mark ∷ count ∷ digits) = hex_octets digits
generic_octets fields = None

-- the octets of data of the type with this number, if the form of its data is known here: DS is 43, DNSKEY 48, CDS 59 and
-- CDNSKEY 60
abbrev pub form_octets : ℕ → List (List ℕ) → Option (List ℕ)
form_octets number tokens =
    if (number == 43) || (number == 59) then signer_octets tokens
    else (if (number == 48) || (number == 60) then key_octets tokens else None)

-- the octets of data of the type with this number, as its tokens write them
abbrev pub kept_octets : ℕ → List (List ℕ) → Option (List ℕ)
kept_octets number tokens =
    if is_generic tokens then generic_octets tokens else form_octets number tokens
