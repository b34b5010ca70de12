-- Plain octets in front of a text, which stand for themselves.
use Rattle.std.proofs.Common.{◌≡◌, ℕ, zero, suc, ◌+◌, ◌-◌, ◌<◌, ◌≤◌, ◌++◌, ◌&&◌, true, false, cond, List, [], ◌∷◌, length, take, drop, map, Ok, Err, get_or, sym, refl, ap, ◌∙◌, subst, inl, inr, arith}
use Rattle.std.specs.Prelude.{if◌then◌else◌, ◌==◌}
use Rattle.std.specs.List.{list_all, prefix_len}
use Rattle.std.specs.Char.{to_ascii_lowercase}
use Rattle.std.proofs.lemmas.Bool.{and_parts, cases_Bool}
use Rattle.std.proofs.lemmas.List.Sums.{prefix_len-le-length}
use Rattle.std.proofs.lemmas.Bool.Decides.{nat_tests}
use Rattle.std.proofs.lemmas.List.{append-nil, append_assoc, length_push, length-map, length-take-le, take_all}
use Rattle.dns_data.specs.declared.fault.NameFault.TheVariants.{EmptyLabel, LabelTooLong}
use Rattle.dns_data.specs.Octet.{folded}
use Rattle.dns_data.specs.Label.{IsLabel, is_label_octet}
use Rattle.dns_data.specs.Spelling.{Dot, Octet, signs, escaped, spelled, after_label}
use Rattle.dns_data.specs.Put.{is_plain}
use Rattle.dns_data.proofs.RoundTrip.{lower_stays, not_full, not_empty}

-- a plain octet's sign is the octet
plain_sign : (octet : ℕ) (rest : List ℕ) → is_plain octet ≡ true → signs (octet ∷ rest) ≡ Octet octet ∷ signs rest
plain_sign octet rest h =
    let backslash : (octet == 92) ≡ false = grind (arith, nat_tests) in
    let dot : (octet == 46) ≡ false = grind (arith, nat_tests) in
    ap (λ b. if b then escaped rest else (if octet == 46 then Dot ∷ signs rest else Octet octet ∷ signs rest)) backslash ∙ ap (λ b. if b then Dot ∷ signs rest else Octet octet ∷ signs rest) dot

-- plain octets go to the label under way, folded
pub plain_front : (n : ℕ) (text before : List ℕ) → n ≤ prefix_len is_plain text → length before + n ≤ 63 → spelled before (signs text) ≡ spelled (before ++ map folded (take n text)) (signs (drop n text))
plain_front zero text before h short = ap (λ (l : List ℕ). spelled l (signs text)) (sym (append-nil before))
plain_front (suc n) [] before h short = absurd (omega arith)
plain_front (suc n) (octet ∷ text) before h short = elim (cases_Bool (is_plain octet)) [
  | inl plain ↦
      let more : n ≤ prefix_len is_plain text = omega (arith, h, ap (λ b. cond b (1 + prefix_len is_plain text) 0) plain) in
      let shorter : length (before ++ folded octet ∷ []) + n ≤ 63 = omega (arith, length_push before (folded octet)) in
      ap (spelled before) (plain_sign octet text plain) ∙ ap (λ b. if b then Err LabelTooLong else spelled (before ++ folded octet ∷ []) (signs text)) (not_full (length before) n short)
      ∙ plain_front n text (before ++ folded octet ∷ []) more shorter
      ∙ ap (λ (l : List ℕ). spelled l (signs (drop n text))) (append_assoc before (folded octet ∷ []) (map folded (take n text)))
  | inr other ↦ absurd (omega (arith, h, ap (λ b. cond b (1 + prefix_len is_plain text) 0) other))
]

-- a label of plain octets that a dot ends
pub plain_then_dot : (text label after : List ℕ) (n : ℕ) → n ≤ prefix_len is_plain text → n ≤ 63 → 0 < n → label ≡ take n text → drop n text ≡ 46 ∷ after → spelled [] (signs text) ≡ after_label (map folded label) (spelled [] (signs after))
plain_then_dot text label after n plain short some e f =
    let size : length (map folded (take n text)) ≡ n = length-map (take n text) folded ∙ length-take-le n text (omega (arith, plain, prefix_len-le-length is_plain text)) in
    plain_front n text [] plain (omega (arith, short)) ∙ ap (λ (rest : List ℕ). spelled (map folded (take n text)) (signs rest)) f
    ∙ ap (λ b. if b then Err EmptyLabel else after_label (map folded (take n text)) (spelled [] (signs after))) (not_empty _ (omega (arith, size, some)))
    ∙ ap (λ (l : List ℕ). after_label (map folded l) (spelled [] (signs after))) (sym e)

-- a label of plain octets that the text ends
pub plain_to_end : (text label : List ℕ) (n : ℕ) → n ≤ prefix_len is_plain text → n ≤ 63 → 0 < n → label ≡ take n text → drop n text ≡ [] → spelled [] (signs text) ≡ Ok (record { labels = map folded label ∷ []; absolute = false })
plain_to_end text label n plain short some e f =
    let size : length (map folded (take n text)) ≡ n = length-map (take n text) folded ∙ length-take-le n text (omega (arith, plain, prefix_len-le-length is_plain text)) in
    plain_front n text [] plain (omega (arith, short)) ∙ ap (λ (rest : List ℕ). spelled (map folded (take n text)) (signs rest)) f
    ∙ ap (λ b. if b then Ok (record { labels = []; absolute = true }) else Ok (record { labels = map folded (take n text) ∷ []; absolute = false })) (not_empty _ (omega (arith, size, some)))
    ∙ ap (λ (l : List ℕ). Ok (record { labels = map folded l ∷ []; absolute = false })) (sym e)

-- an octet in lower case is one of a label
folded_good : (octet : ℕ) → octet < 256 → is_label_octet (folded octet) ≡ true
folded_good octet h = grind (arith, nat_tests)

all_good : (octets : List ℕ) → ((i : ℕ) → get_or octets i 0 < 256) → list_all is_label_octet (map folded octets) ≡ true
all_good [] h = refl
all_good (octet ∷ octets) h =
    let rest : list_all is_label_octet (map folded octets) ≡ true = all_good octets (λ i. h (suc i)) in
    λ i. folded_good octet (h 0) i && rest i

front_fits : (n : ℕ) (text : List ℕ) → ((i : ℕ) → get_or text i 0 < 256) → (i : ℕ) → get_or (take n text) i 0 < 256
front_fits zero text h i = omega arith
front_fits (suc n) [] h i = omega arith
front_fits (suc n) (x ∷ text) h zero = h 0
front_fits (suc n) (x ∷ text) h (suc i) = front_fits n text (λ j. h (suc j)) i

-- 1 to 63 octets make a label, folded
pub folded_label : (text label : List ℕ) (n : ℕ) → ((i : ℕ) → get_or text i 0 < 256) → n ≤ length text → 0 < n → n ≤ 63 → label ≡ take n text → IsLabel (map folded label)
folded_label text label n fits within some short e =
    let size : length (map folded (take n text)) ≡ n = length-map (take n text) folded ∙ length-take-le n text within in
    subst (λ (l : List ℕ). IsLabel (map folded l)) (sym e) (record {
      not_empty = omega (arith, size);
      short = omega (arith, size);
      octets = all_good (take n text) (front_fits n text fits);
    })

-- a text that begins with a dot is the dot and what is behind it
pub dot_first : (rest : List ℕ) → 1 ≤ length rest → get_or rest 0 0 ≡ 46 → rest ≡ 46 ∷ take (length rest - 1) (drop 1 rest)
dot_first [] h e = absurd (omega arith)
dot_first (x ∷ rest) h e = ap (λ (o : ℕ). o ∷ rest) e ∙ ap (λ (l : List ℕ). 46 ∷ l) (sym (take_all _ rest (omega arith)))

-- a label's octets are in lower case
pub folded_stays : (octets : List ℕ) → list_all is_label_octet octets ≡ true → map folded octets ≡ octets
folded_stays [] h = refl
folded_stays (octet ∷ octets) h =
    let g = and_parts (is_label_octet octet) (list_all is_label_octet octets) h in
    ap (λ (o : ℕ). o ∷ map folded octets) (lower_stays octet g.0) ∙ ap (λ (l : List ℕ). octet ∷ l) (folded_stays octets g.1)

-- the two words for an octet in lower case are one
fold_is : (octet : ℕ) → to_ascii_lowercase octet ≡ folded octet
fold_is octet = grind (arith, nat_tests)

-- the standard library's lower case of octets and that of the definitions are the same
pub folds_are : (octets : List ℕ) → map to_ascii_lowercase octets ≡ map folded octets
folds_are [] = refl
folds_are (octet ∷ octets) =
    ap (λ (o : ℕ). o ∷ map to_ascii_lowercase octets) (fold_is octet) ∙ ap (λ (l : List ℕ). folded octet ∷ l) (folds_are octets)
