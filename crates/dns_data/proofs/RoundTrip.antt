-- The text of a name reads back as the name.
use Rattle.std.proofs.Common.{◌≡◌, ℕ, suc, ◌<◌, ◌≤◌, ◌+◌, ◌/◌, ◌%◌, ◌++◌, ◌&&◌, Bool, true, false, nat_eq, nat_le, List, [], ◌∷◌, length, Result, Ok, Err, codes, sym, refl, ap, subst, ◌∙◌, arith}
use Rattle.std.specs.Prelude.{if◌then◌else◌, ◌==◌, reverse}
use Rattle.std.specs.List.{AllByRecursion, flat_map, list_all}
use Rattle.std.specs.Cmp.Lexicographic.{pointwise, bytes_decides}
use Rattle.std.proofs.lemmas.Bool.{and_parts, false_from_ne_true}
use Rattle.std.proofs.lemmas.Bool.Decides.{nat_tests}
use Rattle.std.proofs.lemmas.List.{append-nil, append_assoc, reverse-append, reverse-reverse, length-reverse, length_push, nil_from_length}
use Rattle.dns_data.specs.declared.fault.NameFault.{NameFault}
use Rattle.dns_data.specs.declared.fault.NameFault.TheVariants.{EmptyLabel, LabelTooLong, NameTooLong}
use Rattle.dns_data.proofs.Names.{all_push}
use Rattle.dns_data.specs.Octet.{is_digit, folded, three_digit_value, decimal_escape}
use Rattle.dns_data.specs.Label.{IsLabel, is_label_octet}
use Rattle.dns_data.specs.Name.{Labels, IsName, wire_octets}
use Rattle.dns_data.specs.Spelling.{Dot, Octet, Broken, signs, escaped, second_digit, third_digit, Spelled, spelled, after_label, if_short, placed, name_of_text, is_special, octet_text, label_text, name_text}

special_not_digit : (octet : ℕ) → is_special octet ≡ true → is_digit octet ≡ false
special_not_digit octet h = grind (arith, nat_tests)

plain_not_backslash : (octet : ℕ) → is_special octet ≡ false → (octet == 92) ≡ false
plain_not_backslash octet h = grind (arith, nat_tests)

plain_not_dot : (octet : ℕ) → is_special octet ≡ false → (octet == 46) ≡ false
plain_not_dot octet h = grind (arith, nat_tests)

-- 48 with a number below 10 added is the octet of a digit
pub digit : (n : ℕ) → n < 10 → is_digit (48 + n) ≡ true
digit n h = grind (arith, nat_tests)

-- the three decimal digits of an octet have its value
pub three_digits_value : (octet : ℕ) → three_digit_value (48 + octet / 100) (48 + octet / 10 % 10) (48 + octet % 10) ≡ octet
three_digits_value octet = omega arith

special_reads : (octet : ℕ) (rest : List ℕ) → is_special octet ≡ true → signs (92 ∷ octet ∷ rest) ≡ Octet octet ∷ signs rest
special_reads octet rest h =
    ap (λ b. if b then second_digit octet rest else Octet octet ∷ signs rest) (special_not_digit octet h)

plain_reads : (octet : ℕ) (rest : List ℕ) → is_special octet ≡ false → signs (octet ∷ rest) ≡ Octet octet ∷ signs rest
plain_reads octet rest h =
    ap (λ b. if b then escaped rest else (if octet == 46 then Dot ∷ signs rest else Octet octet ∷ signs rest)) (plain_not_backslash octet h) ∙ ap (λ b. if b then Dot ∷ signs rest else Octet octet ∷ signs rest) (plain_not_dot octet h)

three_true : (p q r : Bool) → p ≡ true → q ≡ true → r ≡ true → (p && q && r) ≡ true
three_true p q r h k l = λ i. h i && k i && l i

decimal_reads : (octet : ℕ) (rest : List ℕ) → octet < 256 → signs (decimal_escape octet ++ rest) ≡ Octet octet ∷ signs rest
decimal_reads octet rest small =
    let a = 48 + octet / 100 in let b = 48 + octet / 10 % 10 in let c = 48 + octet % 10 in
    let fits : nat_le (three_digit_value a b c) 255 ≡ true = rw (three_digits_value octet) (grind (arith, nat_tests)) in
    ap (λ t. if t then third_digit a b (c ∷ rest) else Octet a ∷ signs (b ∷ c ∷ rest)) (digit (octet / 100) (omega arith)) ∙ ap (λ t. if t then Octet (three_digit_value a b c) ∷ signs rest else Broken ∷ []) (three_true _ _ _ (digit (octet / 10 % 10) (omega arith)) (digit (octet % 10) (omega arith)) fits) ∙ ap (λ (v : ℕ). Octet v ∷ signs rest) (three_digits_value octet)

octet_reads_as : (octet : ℕ) (rest : List ℕ) → octet < 256 → (special printed : Bool) → is_special octet ≡ special → signs ((if special then 92 ∷ octet ∷ [] else (if printed then octet ∷ [] else decimal_escape octet)) ++ rest) ≡ Octet octet ∷ signs rest
octet_reads_as octet rest small true printed h = special_reads octet rest h
octet_reads_as octet rest small false true h = plain_reads octet rest h
octet_reads_as octet rest small false false h = decimal_reads octet rest small

-- the text of an octet spells the octet
pub octet_reads : (octet : ℕ) (rest : List ℕ) → octet < 256 → signs (octet_text octet ++ rest) ≡ Octet octet ∷ signs rest
octet_reads octet rest small = octet_reads_as octet rest small (is_special octet) (nat_le 33 octet && nat_le octet 126) refl

-- an octet that a label may have is in lower case
pub lower_stays : (octet : ℕ) → is_label_octet octet ≡ true → folded octet ≡ octet
lower_stays octet h = grind (arith, nat_tests)

label_octet_small : (octet : ℕ) → is_label_octet octet ≡ true → octet < 256
label_octet_small octet h = grind (arith, nat_tests)

-- a label that has room for an octet more is shorter than 63 octets
pub not_full : (n k : ℕ) → n + suc k ≤ 63 → nat_le 63 n ≡ false
not_full n k h = grind (arith, nat_tests)

-- the texts of a label's octets spell the octets
octets_read : (octets before rest : List ℕ) → list_all is_label_octet octets ≡ true → length before + length octets ≤ 63 → spelled before (signs (flat_map octet_text octets ++ rest)) ≡ spelled (before ++ octets) (signs rest)
octets_read [] before rest good short = ap (λ (l : List ℕ). spelled l (signs rest)) (sym (append-nil before))
octets_read (octet ∷ octets) before rest good short =
    let g = and_parts (is_label_octet octet) (list_all is_label_octet octets) good in
    let text = flat_map octet_text octets ++ rest in
    let shorter : length (before ++ octet ∷ []) + length octets ≤ 63 = omega (arith, length_push before octet) in
    ap (λ (t : List ℕ). spelled before (signs t)) (append_assoc (octet_text octet) (flat_map octet_text octets) rest) ∙ ap (spelled before) (octet_reads octet text (label_octet_small octet g.0)) ∙ ap (λ b. if b then Err LabelTooLong else spelled (before ++ folded octet ∷ []) (signs text)) (not_full (length before) (length octets) short) ∙ ap (λ (o : ℕ). spelled (before ++ o ∷ []) (signs text)) (lower_stays octet g.0) ∙ octets_read octets (before ++ octet ∷ []) rest g.1 shorter ∙ ap (λ (l : List ℕ). spelled l (signs rest)) (append_assoc before (octet ∷ []) octets)

-- a number above 0 fails the test for 0
pub not_empty : (n : ℕ) → 0 < n → (n == 0) ≡ false
not_empty n h = grind (arith, nat_tests)

-- the text of a label spells the label
label_reads : (label rest : List ℕ) → IsLabel label → spelled [] (signs (label_text label ++ rest)) ≡ after_label label (spelled [] (signs rest))
label_reads label rest is =
    ap (λ (t : List ℕ). spelled [] (signs t)) (append_assoc (flat_map octet_text label) (46 ∷ []) rest) ∙ octets_read label [] (46 ∷ rest) is.octets (omega (arith, is.short)) ∙ ap (λ b. if b then Err EmptyLabel else after_label label (spelled [] (signs rest))) (not_empty (length label) is.not_empty)

-- the texts of labels spell the labels
labels_read : (labels : Labels) → AllByRecursion IsLabel labels → spelled [] (signs (flat_map label_text labels)) ≡ Ok (record { labels = labels; absolute = true })
labels_read [] are = refl
labels_read (label ∷ labels) are =
    label_reads label (flat_map label_text labels) are.0 ∙ ap (after_label label) (labels_read labels are.1)

-- what holds of the items of a list holds of those of the list turned round
pub all_reverse : {X : Type 0} (P : X → Type 0) (xs : List X) → AllByRecursion P xs → AllByRecursion P (reverse xs)
all_reverse P [] h = h
all_reverse {X} P (x ∷ xs) h =
    let Holds : List X → Type 0 = AllByRecursion P in
    subst Holds (sym (reverse-append (x ∷ []) xs)) (all_push P (reverse xs) x (all_reverse P xs h.1) h.0)

labels_in : Result Spelled NameFault → Labels
labels_in (Ok said) = said.labels
labels_in (Err fault) = []

is_absolute : Result Spelled NameFault → Bool
is_absolute (Ok said) = said.absolute
is_absolute (Err fault) = false

-- a text of one or more labels, each with its dot, stands for the name of these labels
text_reads : (text : List ℕ) (labels origin : Labels) → 0 < length labels → spelled [] (signs text) ≡ Ok (record { labels = labels; absolute = true }) → name_of_text text origin ≡ if_short (reverse labels)
unfolding labels_in is_absolute
text_reads text labels origin some said =
    let at : List ℕ → Labels = λ t. labels_in (spelled [] (signs t)) in
    let ends : List ℕ → Bool = λ t. is_absolute (spelled [] (signs t)) in
    let same_labels : at text ≡ labels = ap labels_in said in
    let same_end : ends text ≡ true = ap is_absolute said in
    let not_none : (length text == 0) ≡ false =
    false_from_ne_true _ (λ e. let n : length text ≡ 0 = grind (arith, nat_tests) in let k : [] ≡ labels = ap at (sym (nil_from_length text n)) ∙ same_labels in omega (arith, ap length k)) in
    let not_dot : pointwise nat_eq text (codes ".") ≡ false =
    false_from_ne_true _ (λ e. let k : false ≡ true = ap ends (sym ((bytes_decides text (codes ".")).0 e)) ∙ same_end in cc) in
    let not_at : pointwise nat_eq text (codes "@") ≡ false =
    false_from_ne_true _ (λ e. let k : false ≡ true = ap ends (sym ((bytes_decides text (codes "@")).0 e)) ∙ same_end in cc) in
    ap (λ b. if b then Err EmptyLabel else (if pointwise nat_eq text (codes ".") then Ok [] else (if pointwise nat_eq text (codes "@") then Ok origin else placed origin (spelled [] (signs text))))) not_none ∙ ap (λ b. if b then Ok [] else (if pointwise nat_eq text (codes "@") then Ok origin else placed origin (spelled [] (signs text)))) not_dot ∙ ap (λ b. if b then Ok origin else placed origin (spelled [] (signs text))) not_at ∙ ap (placed origin) said

name_fits : (octets : ℕ) → octets ≤ 255 → nat_le octets 255 ≡ true
name_fits octets h = grind (arith, nat_tests)

-- the text of a name reads back as the name, under any origin
pub text_reads_back : (name origin : Labels) → IsName name → name_of_text (name_text name) origin ≡ Ok name
text_reads_back [] origin is = refl
text_reads_back (label ∷ labels) origin is =
    let name : Labels = label ∷ labels in
    let some : 0 < length (reverse name) = omega (arith, length-reverse name) in
    ap (λ b. name_of_text (if b then codes "." else flat_map label_text (reverse name)) origin) (not_empty (length name) (omega arith)) ∙ text_reads (flat_map label_text (reverse name)) (reverse name) origin some (labels_read (reverse name) (all_reverse IsLabel name is.labels)) ∙ ap if_short (reverse-reverse name) ∙ ap (λ b. if b then Ok name else Err NameTooLong) (name_fits (wire_octets name) is.short)
