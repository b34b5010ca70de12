-- Octets of words: those that are written out, and the digits of a zone's number.
use Rattle.std.proofs.Common.{◌≡◌, ℕ, ◌+◌, ◌<◌, ◌≤◌, Bool, true, false, ◌&&◌, ◌||◌, List, [], ◌∷◌, ◌++◌, length, codes, decimal, flat_map, nat_le, if◌then◌else◌, ◌==◌, refl, ◌∙◌, arith, length-append, ne_eqb, leb-true, rules}
use Rattle.std.specs.List.{list_all}
use Rattle.std.proofs.lemmas.Bool.{and_parts}
use Rattle.std.proofs.lemmas.Bool.Decides.{nat_tests}
use Rattle.std.proofs.lemmas.Fmt.{digits_decimal, length-decimal-le}
use Rattle.std.proofs.lemmas.List.Folds.{list_all-append}
use Rattle.std.proofs.lemmas.Str.Parse.{numerals_by_fold}
use Rattle.dns_data.specs.Octet.{is_digit, digits_after, escaped_as}
use Rattle.dns_data.specs.Label.{is_label_octet}
use Rattle.dns_data.specs.Spelling.{is_special, octet_text}
use Rattle.master_lex.specs.declared.octet.OctetKind.TheVariants.{Plain, Blank, LineFeed, Semicolon, Open, Close, Quote, Backslash}
use Rattle.master_lex.specs.Octets.{kind, stands}
use Rattle.drill_laws.proofs.Lines.{is_plain, IsWord}

-- ---- digits

-- the digits of a number below 10,000
pub record IsNumber (octets : List ℕ) : Type 0 where
  pub digits : list_all is_digit octets ≡ true
  pub short : length octets ≤ 4

-- a number below 10,000 is written in digits, and in no more than four
pub number_of : (n : ℕ) → n < 10000 → IsNumber (decimal n)
number_of n small = record {
  digits = digits_decimal (numerals_by_fold (λ ds. list_all is_digit ds ≡ true) (search rules) digits_after (search rules)) n (omega arith);
  short = length-decimal-le 4 n (omega arith) small (omega arith);
}

-- what holds of each digit holds of digits
pub all_digits : (test : ℕ → Bool) → ((octet : ℕ) → is_digit octet ≡ true → test octet ≡ true) → (digits : List ℕ) → list_all is_digit digits ≡ true → list_all test digits ≡ true
all_digits test each [] are = refl
all_digits test each (digit ∷ digits) are =
    let both = and_parts (is_digit digit) (list_all is_digit digits) are in
    let rest = all_digits test each digits both.1 in
    λ i. each digit both.0 i && rest i

digit_is_plain : (octet : ℕ) → is_digit octet ≡ true → is_plain octet ≡ true
unfolding kind
digit_is_plain octet is =
    let both = and_parts (nat_le 48 octet) (nat_le octet 57) is in
    let low : 48 ≤ octet = leb-true 48 octet both.0 in
    let high : octet ≤ 57 = leb-true octet 57 both.1 in
    let space : (octet == 32) ≡ false = ne_eqb octet 32 (λ e. absurd (omega arith)) in
    let tab : (octet == 9) ≡ false = ne_eqb octet 9 (λ e. absurd (omega arith)) in
    let return : (octet == 13) ≡ false = ne_eqb octet 13 (λ e. absurd (omega arith)) in
    let feed : (octet == 10) ≡ false = ne_eqb octet 10 (λ e. absurd (omega arith)) in
    let semicolon : (octet == 59) ≡ false = ne_eqb octet 59 (λ e. absurd (omega arith)) in
    let opens : (octet == 40) ≡ false = ne_eqb octet 40 (λ e. absurd (omega arith)) in
    let closes : (octet == 41) ≡ false = ne_eqb octet 41 (λ e. absurd (omega arith)) in
    let quote : (octet == 34) ≡ false = ne_eqb octet 34 (λ e. absurd (omega arith)) in
    let backslash : (octet == 92) ≡ false = ne_eqb octet 92 (λ e. absurd (omega arith)) in
    λ i. stands false (if space i || tab i || return i then Blank
    else if feed i then LineFeed
    else if semicolon i then Semicolon
    else if opens i then Open
    else if closes i then Close
    else if quote i then Quote
    else if backslash i then Backslash
    else Plain)

digit_of_label : (octet : ℕ) → is_digit octet ≡ true → is_label_octet octet ≡ true
digit_of_label octet is = grind (arith, nat_tests)

digit_not_special : (octet : ℕ) → is_digit octet ≡ true → is_special octet ≡ false
digit_not_special octet is = grind (arith, nat_tests)

digit_stands : (octet : ℕ) → is_digit octet ≡ true → (nat_le 33 octet && nat_le octet 126) ≡ true
digit_stands octet is = grind (arith, nat_tests)

-- a digit is its own text
digit_text : (octet : ℕ) → is_digit octet ≡ true → octet_text octet ≡ octet ∷ []
digit_text octet is =
    let special = digit_not_special octet is in
    let stands = digit_stands octet is in
    λ i. escaped_as (special i) (stands i) octet

-- octets of a name, each of which is its own text
pub digits_text : (digits : List ℕ) → list_all is_digit digits ≡ true → flat_map octet_text digits ≡ digits
digits_text [] are = refl
digits_text (digit ∷ digits) are =
    let both = and_parts (is_digit digit) (list_all is_digit digits) are in
    let rest = digits_text digits both.1 in
    λ i. digit_text digit both.0 i ++ rest i

-- digits are octets that a label may have
pub digits_of_label : (digits : List ℕ) → list_all is_digit digits ≡ true → list_all is_label_octet digits ≡ true
digits_of_label = all_digits is_label_octet digit_of_label

-- ---- parts of words

-- at most so many plain octets
pub record IsPart (most : ℕ) (octets : List ℕ) : Type 0 where
  pub plain : list_all is_plain octets ≡ true
  pub short : length octets ≤ most

-- the digits of a zone's number are at most four plain octets
pub number_part : (digits : List ℕ) → IsNumber digits → IsPart 4 digits
number_part digits is = record { plain = all_digits is_plain digit_is_plain digits is.digits; short = is.short }

-- two parts of a word, one behind the other, are a part of a word
pub both_parts : (m n : ℕ) (first second : List ℕ) → IsPart m first → IsPart n second → IsPart (m + n) (first ++ second)
both_parts m n first second p q = record {
  plain = list_all-append is_plain first second ∙ (λ i. p.plain i && q.plain i);
  short = omega (arith, p.short, q.short, length-append first second);
}

-- a part is a word
pub word_of : (most : ℕ) (word : List ℕ) → most ≤ 131072 → 0 < length word → IsPart most word → IsWord word
word_of most word fits some is = record { plain = is.plain; some = some; short = omega (arith, is.short) }

-- ---- words that are written out

-- `$TTL`, the word of the directive, is a word of plain octets
pub dollar_ttl : IsWord (codes "$TTL")
unfolding kind
dollar_ttl = record { plain = refl; some = omega arith; short = omega arith }

-- `60`, the TTL of all records, is a word of plain octets
pub sixty : IsWord (codes "60")
unfolding kind
sixty = record { plain = refl; some = omega arith; short = omega arith }
