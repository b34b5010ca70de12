-- The addresses of drills.
use Rattle.std.proofs.Common.{◌≡◌, ℕ, ◌<◌, true, ◌&&◌, List, [], ◌∷◌, ◌++◌, codes, decimal, Option, Ok, refl, sym, ap, ◌∙◌, arith, append_assoc, append-nil, lt-ltb}
use Rattle.std.specs.Fmt.{digits}
use Rattle.std.specs.List.{list_all}
use Rattle.std.specs.Option.{ok_or}
use Rattle.dns_data.specs.Answers.{◌>>=◌}
use Rattle.dns_data.specs.DataText.{data_text}
use Rattle.dns_data.specs.declared.rdata.Rdata.TheVariants.{A}
use Rattle.dns_data.specs.declared.rr_type.RrType.TheVariants as types
use Rattle.master_lex.specs.Octets.{kind}
use Rattle.rdata_forms.specs.AddressTexts.{IsIpv4Text, is_octet}
use Rattle.rdata_forms.specs.Forms.{rdata_of}
use Rattle.rdata_forms.specs.declared.fault.RdataFault.TheVariants.{BadAddress}
use Rattle.rdata_forms.proofs.DottedTexts.{ipv4-complete}
use Rattle.drill_laws.proofs.Lines.{bare}
use Rattle.drill_laws.proofs.Parts.{IsPart, number_of, number_part, both_parts}

-- an address whose first octet is 10
abbrev pub address_text : ℕ → ℕ → ℕ → List ℕ
address_text network high low = codes "10." ++ decimal network ++ codes "." ++ decimal high ++ codes "." ++ decimal low

-- the four octets of an address whose first octet is 10
abbrev pub address_of : ℕ → ℕ → ℕ → List ℕ
address_of network high low = 10 ∷ network ∷ high ∷ low ∷ []

ten : decimal 10 ≡ codes "10"
unfolding digits
ten = refl

regroup : (a b c : List ℕ) → codes "10." ++ a ++ codes "." ++ b ++ codes "." ++ c ≡ codes "10" ++ ((46 ∷ a) ++ ((46 ∷ b) ++ ((46 ∷ c) ++ [])))
regroup a b c = simp (append_assoc, append-nil)

-- the text of an address of a drill reads as that address
pub address_reads : (network high low : ℕ) → network < 256 → high < 256 → low < 256
    → rdata_of types.A (bare (address_text network high low) ∷ []) [] ≡ Ok (A (address_of network high low))
address_reads network high low p q r =
    let text : address_text network high low ≡ data_text (A (address_of network high low)) =
    regroup (decimal network) (decimal high) (decimal low)
    ∙ ap (λ (front : List ℕ). front ++ ((46 ∷ decimal network) ++ ((46 ∷ decimal high) ++ ((46 ∷ decimal low) ++ [])))) (sym ten) in
    let octets : list_all is_octet (address_of network high low) ≡ true =
    λ i. lt-ltb network 256 p i && (lt-ltb high 256 q i && (lt-ltb low 256 r i && true)) in
    let is : IsIpv4Text (address_text network high low) (address_of network high low) = record { four = refl; octets = octets; written = text } in
    ap (λ (said : Option (List ℕ)). ok_or said BadAddress >>= (λ address. Ok (A address))) (ipv4-complete (address_text network high low) (address_of network high low) is)

dot_part : IsPart 1 (codes ".")
unfolding kind
dot_part = record { plain = refl; short = omega arith }

front_part : IsPart 3 (codes "10.")
unfolding kind
front_part = record { plain = refl; short = omega arith }

small_part : (n : ℕ) → n < 256 → IsPart 4 (decimal n)
small_part n small = number_part (decimal n) (number_of n (omega arith))

-- the text of an address of a drill is a part of a word
pub address_part : (network high low : ℕ) → network < 256 → high < 256 → low < 256 → IsPart 17 (address_text network high low)
address_part network high low p q r =
    let one = both_parts 3 4 (codes "10.") (decimal network) front_part (small_part network p) in
    let two = both_parts 7 1 (codes "10." ++ decimal network) (codes ".") one dot_part in
    let three = both_parts 8 4 (codes "10." ++ decimal network ++ codes ".") (decimal high) two (small_part high q) in
    let four = both_parts 12 1 (codes "10." ++ decimal network ++ codes "." ++ decimal high) (codes ".") three dot_part in
    both_parts 13 4 (codes "10." ++ decimal network ++ codes "." ++ decimal high ++ codes ".") (decimal low) four (small_part low r)
