-- Where the first `::` of an IPv6 text stands.
use Rattle.std.proofs.Common.{◌≡◌, ℕ, ◌<◌, true, false, ◌&&◌, ◌⊎◌, inl, inr, List, [], ◌∷◌, ◌++◌, length, eqb, Option, Some, None, option_map, refl, ap, sym, ◌∙◌, arith, append_assoc}
use Rattle.std.proofs.lemmas.Bool.{cond-true, cond-false, and_left, and_right, and_parts, eqb-true, cases_Bool}
use Rattle.rdata_forms.specs.Addresses.{Sides, sides_of, after_octet}
use Rattle.dns_data.proofs.Separators.{Lacks, rest_of}
use Rattle.rdata_forms.proofs.TwoSides.{after_octets, after_none}

-- an octet that is no colon stands before the sides
before-sides : (x : ℕ) (text : List ℕ) → eqb x 58 ≡ false → sides_of (x ∷ text) ≡ option_map (after_octet x) (sides_of text)
before-sides x [] h = refl
before-sides x (y ∷ text) h = cond-false (eqb x 58 && eqb y 58) _ _ (and_left (eqb x 58) (eqb y 58) h)

-- a colon in front of an octet that is none stands before the sides
colon-before : (y : ℕ) (text : List ℕ) → eqb y 58 ≡ false → sides_of (58 ∷ y ∷ text) ≡ option_map (after_octet 58) (sides_of (y ∷ text))
colon-before y text h = cond-false (eqb 58 58 && eqb y 58) _ _ (and_right (eqb 58 58) (eqb y 58) h)

-- an octet before octets before the sides
after_both : (x : ℕ) (octets : List ℕ) (sides : Option Sides) → option_map (after_octet x) (option_map (after_octets octets) sides) ≡ option_map (after_octets (x ∷ octets)) sides
after_both x octets None = refl
after_both x octets (Some sides) = refl

-- octets before octets before the sides
after_all : (first second : List ℕ) (sides : Option Sides) → option_map (after_octets first) (option_map (after_octets second) sides) ≡ option_map (after_octets (first ++ second)) sides
after_all first second None = refl
after_all first second (Some sides) = ap (λ (front : List ℕ). Some (record { front = front; back = sides.back })) (sym (append_assoc first second sides.front))

-- a text without a colon stands before the sides
word-before : (word text : List ℕ) → Lacks 58 word → sides_of (word ++ text) ≡ option_map (after_octets word) (sides_of text)
word-before [] text h = sym (after_none (sides_of text))
word-before (x ∷ word) text h =
    before-sides x (word ++ text) h.0 ∙ ap (option_map (after_octet x)) (word-before word text h.1) ∙ after_both x word (sides_of text)

-- Each of the words has an octet, and none a colon.
abbrev pub AreWords : List (List ℕ) → Type 0
AreWords [] = Unit {0}
AreWords (word ∷ words) = (0 < length word) × Lacks 58 word × AreWords words

-- words with a colon before each stand before the sides
words-before : (words : List (List ℕ)) (text : List ℕ) → AreWords words → sides_of (rest_of 58 words ++ text) ≡ option_map (after_octets (rest_of 58 words)) (sides_of text)
words-before [] text h = sym (after_none (sides_of text))
words-before ([] ∷ words) text h = absurd (omega (arith, h.0))
words-before ((x ∷ word) ∷ words) text h =
    let rest = rest_of 58 words in
    colon-before x ((word ++ rest) ++ text) h.1.0
    ∙ ap (λ (l : List ℕ). option_map (after_octet 58) (sides_of l)) (append_assoc (x ∷ word) rest text)
    ∙ ap (option_map (after_octet 58)) (word-before (x ∷ word) (rest ++ text) h.1)
    ∙ ap (λ (o : Option Sides). option_map (after_octet 58) (option_map (after_octets (x ∷ word)) o)) (words-before words text h.2)
    ∙ ap (option_map (after_octet 58)) (after_all (x ∷ word) rest (sides_of text))
    ∙ after_both 58 ((x ∷ word) ++ rest) (sides_of text)

-- words with colons between them stand before the sides
pub separated-before : (word : List ℕ) (words : List (List ℕ)) (text : List ℕ) → AreWords (word ∷ words) → sides_of ((word ++ rest_of 58 words) ++ text) ≡ option_map (after_octets (word ++ rest_of 58 words)) (sides_of text)
separated-before word words text h =
    ap sides_of (append_assoc word (rest_of 58 words) text)
    ∙ word-before word (rest_of 58 words ++ text) h.1
    ∙ ap (option_map (after_octets word)) (words-before words text h.2)
    ∙ after_all word (rest_of 58 words) (sides_of text)

-- the sides with `::` between them are the text
pub sides-sound : (text : List ℕ) (sides : Sides) → sides_of text ≡ Some sides → text ≡ sides.front ++ (58 ∷ 58 ∷ sides.back)
sides-sound [] sides h = absurd cc
sides-sound (x ∷ []) sides h = absurd cc
sides-sound (x ∷ y ∷ text) sides h = by_test (λ later e. sides-sound (y ∷ text) later e) (cases_Bool (eqb x 58 && eqb y 58)) where
  colons : (eqb x 58 && eqb y 58) ≡ true → x ∷ y ∷ text ≡ 58 ∷ 58 ∷ text
  colons e = let parts = and_parts (eqb x 58) (eqb y 58) e in
      ap (λ (n : ℕ). n ∷ y ∷ text) (eqb-true x 58 parts.0) ∙ ap (λ (n : ℕ). 58 ∷ n ∷ text) (eqb-true y 58 parts.1)

  later-sound : (o : Option Sides) → ((later : Sides) → o ≡ Some later → y ∷ text ≡ later.front ++ (58 ∷ 58 ∷ later.back)) → option_map (after_octet x) o ≡ Some sides → x ∷ y ∷ text ≡ sides.front ++ (58 ∷ 58 ∷ sides.back)
  later-sound None ih e = absurd cc
  later-sound (Some later) ih e =
      let same : after_octet x later ≡ sides = cc in
      ap (λ (l : List ℕ). x ∷ l) (ih later refl) ∙ ap (λ (s : Sides). s.front ++ (58 ∷ 58 ∷ s.back)) same

  by_test : ((later : Sides) → sides_of (y ∷ text) ≡ Some later → y ∷ text ≡ later.front ++ (58 ∷ 58 ∷ later.back)) → ((eqb x 58 && eqb y 58) ≡ true) ⊎ ((eqb x 58 && eqb y 58) ≡ false) → x ∷ y ∷ text ≡ sides.front ++ (58 ∷ 58 ∷ sides.back)
  by_test ih (inl yes_here) =
      let here : Some (record { front = []; back = text }) ≡ Some sides = sym (cond-true (eqb x 58 && eqb y 58) _ _ yes_here) ∙ h in
      let same : record { front = []; back = text } ≡ sides = cc in
      colons yes_here ∙ ap (λ (s : Sides). s.front ++ (58 ∷ 58 ∷ s.back)) same
  by_test ih (inr not_here) =
      later-sound (sides_of (y ∷ text)) ih (sym (cond-false (eqb x 58 && eqb y 58) _ _ not_here) ∙ h)
