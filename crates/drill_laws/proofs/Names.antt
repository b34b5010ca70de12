-- The names of a zone and of the hosts in it, by the digits of the zone's number.
use Rattle.std.proofs.Common.{◌≡◌, ℕ, ◌<◌, ◌≤◌, true, List, [], ◌∷◌, ◌++◌, length, codes, flat_map, Ok, refl, sym, ap, ◌∙◌, arith, append_assoc, append-nil, length-append}
use Rattle.std.specs.List.{list_all}
use Rattle.dns_data.specs.Label.{IsLabel, is_label_octet}
use Rattle.dns_data.specs.Name.{Labels, IsName}
use Rattle.dns_data.specs.Spelling.{octet_text, label_text, name_text, name_of_text}
use Rattle.dns_data.proofs.RoundTrip.{text_reads_back}
use Rattle.master_lex.specs.Octets.{kind}
use Rattle.drill_laws.proofs.Lines.{is_plain, IsWord}
use Rattle.drill_laws.proofs.Parts.{IsNumber, IsPart, digits_text, digits_of_label, number_part, both_parts, word_of}

-- the label of the zone with this number
abbrev pub zone_label : List ℕ → List ℕ
zone_label number = 122 ∷ number

-- the name of the zone with this number
abbrev pub zone_name : List ℕ → Labels
zone_name number = zone_label number ∷ []

-- the name of a host in the zone with this number
abbrev pub host_name : List ℕ → List ℕ → Labels
host_name host number = zone_label number ∷ host ∷ []

-- the text of the zone's name
abbrev pub zone_name_text : List ℕ → List ℕ
zone_name_text number = 122 ∷ (number ++ 46 ∷ [])

-- the text of the name of a host
abbrev pub host_name_text : List ℕ → List ℕ → List ℕ
host_name_text host number = host ++ 46 ∷ zone_name_text number

-- a label of a host, whose text is its own
pub record IsHost (host : List ℕ) : Type 0 where
  pub some : 0 < length host
  pub short : length host ≤ 63
  pub octets : list_all is_label_octet host ≡ true
  pub text : flat_map octet_text host ≡ host
  pub plain : list_all is_plain host ≡ true

label_is : (host : List ℕ) → IsHost host → IsLabel host
label_is host is = record { not_empty = is.some; short = is.short; octets = is.octets }

zone_label_is : (number : List ℕ) → IsNumber number → IsLabel (zone_label number)
zone_label_is number is = record {
  not_empty = omega arith;
  short = omega (arith, is.short);
  octets = digits_of_label number is.digits;
}

zone_label_text : (number : List ℕ) → IsNumber number → label_text (zone_label number) ≡ zone_name_text number
zone_label_text number is = ap (λ (octets : List ℕ). 122 ∷ (octets ++ 46 ∷ [])) (digits_text number is.digits)

-- the text of a zone's name reads as the name
pub zone_named : (number : List ℕ) → IsNumber number → name_of_text (zone_name_text number) [] ≡ Ok (zone_name number)
zone_named number is =
    let text : name_text (zone_name number) ≡ zone_name_text number = ap (λ (octets : List ℕ). octets ++ []) (zone_label_text number is) ∙ append-nil (zone_name_text number) in
    let whole : IsName (zone_name number) = record { labels = (zone_label_is number is, tt); short = omega (arith, is.short) } in
    ap (λ (octets : List ℕ). name_of_text octets []) (sym text) ∙ text_reads_back (zone_name number) [] whole

-- the text of a host's name reads as that name
pub host_named : (host number : List ℕ) → IsHost host → IsNumber number → name_of_text (host_name_text host number) [] ≡ Ok (host_name host number)
host_named host number host_is is =
    let text : name_text (host_name host number) ≡ host_name_text host number =
    ap (λ (octets : List ℕ). (octets ++ 46 ∷ []) ++ (label_text (zone_label number) ++ [])) host_is.text
    ∙ ap (λ (octets : List ℕ). (host ++ 46 ∷ []) ++ (octets ++ [])) (zone_label_text number is)
    ∙ ap (λ (octets : List ℕ). (host ++ 46 ∷ []) ++ octets) (append-nil (zone_name_text number))
    ∙ append_assoc host (46 ∷ []) (zone_name_text number) in
    let whole : IsName (host_name host number) = record { labels = (zone_label_is number is, (label_is host host_is, tt)); short = omega (arith, is.short, host_is.short) } in
    ap (λ (octets : List ℕ). name_of_text octets []) (sym text) ∙ text_reads_back (host_name host number) [] whole

-- ---- these texts are words

dot : IsPart 1 (codes ".")
unfolding kind
dot = record { plain = refl; short = omega arith }

letter : IsPart 1 (codes "z")
unfolding kind
letter = record { plain = refl; short = omega arith }

zone_name_part : (number : List ℕ) → IsNumber number → IsPart 6 (zone_name_text number)
zone_name_part number is =
    both_parts 1 5 (codes "z") (number ++ codes ".") letter (both_parts 4 1 number (codes ".") (number_part number is) dot)

-- the text of a zone's name is a word of plain octets
pub zone_name_word : (number : List ℕ) → IsNumber number → IsWord (zone_name_text number)
zone_name_word number is = word_of 6 (zone_name_text number) (omega arith) (omega arith) (zone_name_part number is)

-- the text of a host's name is a word of plain octets
pub host_name_word : (host number : List ℕ) → IsHost host → IsNumber number → IsWord (host_name_text host number)
host_name_word host number host_is is =
    let front : IsPart 63 host = record { plain = host_is.plain; short = host_is.short } in
    let back = both_parts 1 6 (codes ".") (zone_name_text number) dot (zone_name_part number is) in
    word_of 70 (host_name_text host number) (omega arith) (omega (arith, length-append host (46 ∷ zone_name_text number))) (both_parts 63 7 host (46 ∷ zone_name_text number) front back)

-- ---- the hosts of drills

-- `ns` is a host's label
pub ns_host : IsHost (codes "ns")
unfolding kind
ns_host = record { some = omega arith; short = omega arith; octets = refl; text = refl; plain = refl }

-- `www` is a host's label
pub www_host : IsHost (codes "www")
unfolding kind
www_host = record { some = omega arith; short = omega arith; octets = refl; text = refl; plain = refl }

-- `alias` is a host's label
pub alias_host : IsHost (codes "alias")
unfolding kind
alias_host = record { some = omega arith; short = omega arith; octets = refl; text = refl; plain = refl }

-- `gone` is a host's label
pub gone_host : IsHost (codes "gone")
unfolding kind
gone_host = record { some = omega arith; short = omega arith; octets = refl; text = refl; plain = refl }

-- `none` is a host's label
pub none_host : IsHost (codes "none")
unfolding kind
none_host = record { some = omega arith; short = omega arith; octets = refl; text = refl; plain = refl }

-- `h`, the first label of the mailbox, is a host's label
pub mailbox_host : IsHost (codes "h")
unfolding kind
mailbox_host = record { some = omega arith; short = omega arith; octets = refl; text = refl; plain = refl }
