-- The texts of data tell the data: numbers, names and strings in quotes are read back from them.
use Rattle.std.proofs.Common.{◌≡◌, ℕ, ◌<◌, ◌≤◌, ◌^◌, ◌+◌, ◌*◌, ◌/◌, ◌%◌, ◌++◌, suc, zero, Bool, true, false, ◌||◌, ◌&&◌, nat_le, List, [], ◌∷◌, length, drop, get_or, map, codes, append_assoc, sym, refl, ap, ◌∙◌, arith, if◌then◌else◌, ◌==◌, slice_index}
use Rattle.std.specs.Prelude.{reverse}
use Rattle.std.specs.Char.{digit_value}
use Rattle.std.specs.Fmt.{decimal, digits}
use Rattle.std.specs.List.{AllByRecursion, flat_map}
use Rattle.std.specs.Str.Parse.{AllDigits, digits_value}
use Rattle.std.proofs.lemmas.Bool.{cond-true, cond-false, ne_eqb}
use Rattle.std.proofs.lemmas.Bool.Decides.{nat_tests}
use Rattle.std.proofs.lemmas.Fmt.{digits_is_IsNumeral, decimal_is_IsNumeral}
use Rattle.dns_data.proofs.RoundTrip.{digit, three_digits_value, text_reads_back}
use Rattle.dns_data.proofs.Separators.{Lacks, AllLack, lacks-append, lacks-flat_map}
use Rattle.dns_data.specs.DataText.{separated, string_octet_text, plain, quoted, groups}
use Rattle.dns_data.specs.Name.{Labels, IsName}
use Rattle.dns_data.specs.Octet.{is_digit, three_digit_value, decimal_escape}
use Rattle.dns_data.specs.Rdata.{AreOctets}
use Rattle.dns_data.specs.Spelling.{is_special, octet_text, label_text, name_text, name_of_text}

-- ---- what separates stands in no text between

-- digits lack what is no digit
digits_lack : (radix c : ℕ) (ds : List ℕ) → radix ≤ digit_value c → AllDigits radix ds → Lacks c ds
digits_lack radix c [] other all = tt
digits_lack radix c (x ∷ ds) other all =
    (ne_eqb x c (λ e. let same : digit_value x ≡ digit_value c = ap digit_value e in absurd (omega (arith, same, all.0))), digits_lack radix c ds other all.1)

-- the decimal text of a number has no octet that isn't a digit
pub decimal_lacks : (c n : ℕ) → 10 ≤ digit_value c → n < 2 ^ 64 → Lacks c (decimal n)
decimal_lacks c n other lt = digits_lack 10 c (decimal n) other (decimal_is_IsNumeral n lt).0.1

-- no octet's text has a space
octet_lacks : (octet : ℕ) → Lacks 32 (octet_text octet)
octet_lacks octet = by (is_special octet) (nat_le 33 octet && nat_le octet 126) refl refl where
  by : (special printed : Bool) → is_special octet ≡ special → (nat_le 33 octet && nat_le octet 126) ≡ printed
      → Lacks 32 (if special then 92 ∷ octet ∷ [] else (if printed then octet ∷ [] else decimal_escape octet))
  by true printed h k = (refl, (grind (arith, nat_tests), tt))
  by false true h k = (grind (arith, nat_tests), tt)
  by false false h k =
      (refl, (ne_eqb (48 + octet / 100) 32 (λ e. absurd (omega arith)), (ne_eqb (48 + octet / 10 % 10) 32 (λ e. absurd (omega arith)), (ne_eqb (48 + octet % 10) 32 (λ e. absurd (omega arith)), tt))))

label_lacks : (label : List ℕ) → Lacks 32 (label_text label)
label_lacks label = lacks-append 32 (flat_map octet_text label) (46 ∷ []) (lacks-flat_map 32 octet_text label octet_lacks) (refl, tt)

-- no name's text has a space
pub name_lacks : (name : Labels) → Lacks 32 (name_text name)
name_lacks name = by (length name == 0) where
  by : (root : Bool) → Lacks 32 (if root then codes "." else flat_map label_text (reverse name))
  by true = (refl, tt)
  by false = lacks-flat_map 32 label_text (reverse name) label_lacks

-- ---- numbers and names

-- names with one text are one name
pub name_same : (a b : Labels) → IsName a → IsName b → name_text a ≡ name_text b → a ≡ b
name_same a b p q e =
    let first = ap (λ (text : List ℕ). name_of_text text []) (sym e) ∙ text_reads_back a [] p in
    let second = text_reads_back b [] q in
    cc

hex_same : (a b : ℕ) → a < 65536 → b < 65536 → digits 16 false a ≡ digits 16 false b → a ≡ b
hex_same a b p q e =
    sym (digits_is_IsNumeral 16 false (omega arith) (omega arith) a (omega arith)).1
    ∙ ap (digits_value 16) e ∙ (digits_is_IsNumeral 16 false (omega arith) (omega arith) b (omega arith)).1

-- ---- addresses

-- a list of four numbers is made of its four items
pub four : (address : List ℕ) → length address ≡ 4 → address ≡ slice_index address 0 ∷ slice_index address 1 ∷ slice_index address 2 ∷ slice_index address 3 ∷ []
four [] n = absurd (omega arith)
four (a ∷ []) n = absurd (omega arith)
four (a ∷ b ∷ []) n = absurd (omega arith)
four (a ∷ b ∷ c ∷ []) n = absurd (omega arith)
four (a ∷ b ∷ c ∷ d ∷ []) n = refl
four (a ∷ b ∷ c ∷ d ∷ e ∷ rest) n = absurd (omega arith)

-- no group of an address has a colon
pub groups_lack : (k : ℕ) (address : List ℕ) → length address ≡ 2 * k → AreOctets address → AllLack 58 (groups address)
groups_lack zero [] n are = tt
groups_lack zero (x ∷ rest) n are = absurd (omega arith)
groups_lack (suc k) [] n are = absurd (omega arith)
groups_lack (suc k) (x ∷ []) n are = absurd (omega arith)
groups_lack (suc k) (high ∷ low ∷ rest) n are = (
  digits_lack 16 58 (digits 16 false (high * 256 + low)) (omega arith) (digits_is_IsNumeral 16 false (omega arith) (omega arith) (high * 256 + low) (omega (arith, are.0, are.1.0))).0.1,
  groups_lack k rest (omega arith) are.1.1,
)

-- an address of twice so many octets has so many groups
pub groups_length : (k : ℕ) (address : List ℕ) → length address ≡ 2 * k → length (groups address) ≡ k
groups_length zero [] n = refl
groups_length zero (x ∷ rest) n = absurd (omega arith)
groups_length (suc k) [] n = absurd (omega arith)
groups_length (suc k) (x ∷ []) n = absurd (omega arith)
groups_length (suc k) (high ∷ low ∷ rest) n = ap suc (groups_length k rest (omega arith))

-- addresses of the same length with the same groups are equal
pub groups_same : (k : ℕ) (a b : List ℕ) → length a ≡ 2 * k → length b ≡ 2 * k → AreOctets a → AreOctets b → groups a ≡ groups b → a ≡ b
groups_same zero [] [] m n p q e = refl
groups_same zero (x ∷ a) b m n p q e = absurd (omega arith)
groups_same zero [] (y ∷ b) m n p q e = absurd (omega arith)
groups_same (suc k) [] b m n p q e = absurd (omega arith)
groups_same (suc k) (x ∷ []) b m n p q e = absurd (omega arith)
groups_same (suc k) (x ∷ y ∷ a) [] m n p q e = absurd (omega arith)
groups_same (suc k) (x ∷ y ∷ a) (z ∷ []) m n p q e = absurd (omega arith)
groups_same (suc k) (high ∷ low ∷ a) (high' ∷ low' ∷ b) m n p q e =
    let first : digits 16 false (high * 256 + low) ≡ digits 16 false (high' * 256 + low') = cc in
    let others : groups a ≡ groups b = cc in
    let value : high * 256 + low ≡ high' * 256 + low' =
    hex_same (high * 256 + low) (high' * 256 + low') (omega (arith, p.0, p.1.0)) (omega (arith, q.0, q.1.0)) first in
    let low_same : low ≡ low' = omega (arith, p.1.0, q.1.0, value) in
    let high_same : high ≡ high' = omega (arith, p.1.0, q.1.0, value) in
    let rest = groups_same k a b (omega arith) (omega arith) p.1.1 q.1.1 others in
    cc

-- ---- strings

-- the octet for which a string's text begins, and what follows
record First : Type 0 where
  octet : ℕ
  after : List ℕ

first_of : List ℕ → First
first_of text =
    if get_or text 0 0 == 92
    then (if is_digit (get_or text 1 0) then record { octet = three_digit_value (get_or text 1 0) (get_or text 2 0) (get_or text 3 0); after = drop 4 text }
    else record { octet = get_or text 1 0; after = drop 2 text })
    else record { octet = get_or text 0 0; after = drop 1 text }

-- an octet is read back from its text, whatever follows
first_reads : (octet : ℕ) (rest : List ℕ) → octet < 256 → first_of (string_octet_text octet ++ rest) ≡ record { octet = octet; after = rest }
unfolding first_of
first_reads octet rest small = by ((octet == 34) || (octet == 92)) (nat_le 32 octet && nat_le octet 126) refl refl where
  by : (special printed : Bool) → ((octet == 34) || (octet == 92)) ≡ special → (nat_le 32 octet && nat_le octet 126) ≡ printed
      → first_of ((if special then 92 ∷ octet ∷ [] else (if printed then octet ∷ [] else decimal_escape octet)) ++ rest) ≡ record { octet = octet; after = rest }
  by true printed h k =
      let no : is_digit octet ≡ false = grind (arith, nat_tests) in
      cond-false (is_digit octet) _ _ no
  by false true h k =
      let no : (octet == 92) ≡ false = grind (arith, nat_tests) in
      cond-false (octet == 92) _ _ no
  by false false h k =
      cond-true (is_digit (48 + octet / 100)) _ _ (digit (octet / 100) (omega arith))
      ∙ ap (λ (value : ℕ). record { octet = value; after = rest }) (three_digits_value octet)

heads : (x y : ℕ) (r s : List ℕ) → x ∷ r ≡ y ∷ s → x ≡ y
heads x y r s e = cc

-- no octet's text begins with a quote
no_quote : (octet : ℕ) (r s : List ℕ) → string_octet_text octet ++ r ≡ 34 ∷ s → ⊥
no_quote octet r s e = by ((octet == 34) || (octet == 92)) (nat_le 32 octet && nat_le octet 126) refl e where
  by : (special printed : Bool) → ((octet == 34) || (octet == 92)) ≡ special
      → (if special then 92 ∷ octet ∷ [] else (if printed then octet ∷ [] else decimal_escape octet)) ++ r ≡ 34 ∷ s → ⊥
  by true printed h k = absurd (omega (arith, heads 92 34 _ _ k))
  by false true h k = let bad : octet ≡ 34 = heads octet 34 _ _ k in grind (arith, nat_tests)
  by false false h k = absurd (omega (arith, heads 92 34 _ _ k))

-- a string ends at the first quote that no backslash stands before
pub strings_same : (a b r s : List ℕ) → AreOctets a → AreOctets b → plain a ++ (34 ∷ r) ≡ plain b ++ (34 ∷ s) → (a ≡ b) × (r ≡ s)
strings_same [] [] r s p q e = (refl, cc)
strings_same [] (y ∷ b) r s p q e =
    absurd (no_quote y (plain b ++ (34 ∷ s)) r (sym (append_assoc (string_octet_text y) (plain b) (34 ∷ s)) ∙ sym e))
strings_same (x ∷ a) [] r s p q e =
    absurd (no_quote x (plain a ++ (34 ∷ r)) s (sym (append_assoc (string_octet_text x) (plain a) (34 ∷ r)) ∙ e))
strings_same (x ∷ a) (y ∷ b) r s p q e =
    let whole : string_octet_text x ++ (plain a ++ (34 ∷ r)) ≡ string_octet_text y ++ (plain b ++ (34 ∷ s)) =
    sym (append_assoc (string_octet_text x) (plain a) (34 ∷ r)) ∙ e ∙ append_assoc (string_octet_text y) (plain b) (34 ∷ s) in
    let first = sym (first_reads x (plain a ++ (34 ∷ r)) p.0) ∙ ap first_of whole ∙ first_reads y (plain b ++ (34 ∷ s)) q.0 in
    let here : x ≡ y = ap (λ (f : First). f.octet) first in
    let rest = strings_same a b r s p.1 q.1 (ap (λ (f : First). f.after) first) in
    let all : (x ∷ a) ≡ (y ∷ b) = cc (here, rest.0) in
    (all, rest.1)

quoted_same : (a b r s : List ℕ) → AreOctets a → AreOctets b → quoted a ++ r ≡ quoted b ++ s → (a ≡ b) × (r ≡ s)
quoted_same a b r s p q e =
    let behind : (plain a ++ (34 ∷ [])) ++ r ≡ (plain b ++ (34 ∷ [])) ++ s = ap (drop 1) e in
    strings_same a b r s p q (sym (append_assoc (plain a) (34 ∷ []) r) ∙ behind ∙ append_assoc (plain b) (34 ∷ []) s)

-- strings behind others, each with a space before it
rest_text : List (List ℕ) → List ℕ
rest_text texts = flat_map (λ next. codes " " ++ next) (map quoted texts)

rest_same : (xs ys : List (List ℕ)) → AllByRecursion AreOctets xs → AllByRecursion AreOctets ys → rest_text xs ≡ rest_text ys → xs ≡ ys
unfolding rest_text
rest_same [] [] p q e = refl
rest_same [] (b ∷ ys) p q e = absurd cc
rest_same (a ∷ xs) [] p q e = absurd cc
rest_same (a ∷ xs) (b ∷ ys) p q e =
    let first = quoted_same a b (rest_text xs) (rest_text ys) p.0 q.0 (ap (drop 1) e) in
    let others = rest_same xs ys p.1 q.1 first.1 in
    cc (first.0, others)

-- lists of strings with the same text, each string in quotes and a space between two, are equal
pub texts_same : (xs ys : List (List ℕ)) → AllByRecursion AreOctets xs → AllByRecursion AreOctets ys → separated (codes " ") (map quoted xs) ≡ separated (codes " ") (map quoted ys) → xs ≡ ys
unfolding rest_text
texts_same [] [] p q e = refl
texts_same [] (b ∷ ys) p q e = absurd cc
texts_same (a ∷ xs) [] p q e = absurd cc
texts_same (a ∷ xs) (b ∷ ys) p q e =
    let first = quoted_same a b (rest_text xs) (rest_text ys) p.0 q.0 e in
    let others = rest_same xs ys p.1 q.1 first.1 in
    cc (first.0, others)
