-- The texts of IPv4 addresses.
use Rattle.std.proofs.Common.{◌≡◌, ◌⊎◌, ℕ, ◌<◌, Bool, true, false, ◌&&◌, zero, suc, List, [], ◌∷◌, length, get_or, eqb, leb, ltb, Option, Some, None, refl, ap, sym, subst, ◌∙◌, inl, inr, arith, rules, lit<}
use Rattle.std.specs.Fmt.{decimal}
use Rattle.std.specs.List.{list_all}
use Rattle.std.proofs.lemmas.Bool.{cond-true, cond-false, eq-eqb, ne_eqb, leb-true, le-leb, ltb-true, lt-ltb, and_parts, and_from, cases_Bool, both_ways}
use Rattle.std.proofs.lemmas.Option.{cond_some}
use Rattle.std.proofs.lemmas.Str.Parse.{IsNumeralModel, numerals_by_fold}
use Rattle.std.proofs.lemmas.Fmt.{digits_decimal, digits_value-decimal, decimal-digits_value, decimal_digit, decimal_nonempty, first_decimal, length-decimal-le}
use Rattle.dns_data.specs.Octet.{is_digit, digits_after}
use Rattle.dns_data.specs.DataText.{separated, data_text}
use Rattle.dns_data.specs.declared.rdata.Rdata.TheVariants.{A}
use Rattle.dns_data.specs.Number.{is_digits, number_up_to}
use Rattle.dns_data.specs.Options.{◌>>=◌}
use Rattle.rdata_forms.specs.AddressTexts.{IsIpv4Text, is_octet}
use Rattle.rdata_forms.specs.Addresses.{has_leading_zero, part_of, ipv4_of_parts, ipv4_of, split_on}
use Rattle.dns_data.proofs.Separators.{Lacks, lacks-append, separated-split, split-separated}

-- digits as std reads them
own : IsNumeralModel (λ ds. list_all is_digit ds ≡ true) (digits_after 0)
own = numerals_by_fold _ (search rules) digits_after (search rules)

-- a first digit above 0 is no leading zero
no-leading : (ds : List ℕ) → 48 < get_or ds 0 0 → has_leading_zero ds ≡ false
no-leading [] h = refl
no-leading (x ∷ []) h = refl
no-leading (x ∷ y ∷ ds) h = ne_eqb x 48 (λ e. absurd (omega arith))

-- without a leading zero a first 0 is alone
alone : (ds : List ℕ) → 0 < length ds → has_leading_zero ds ≡ false → get_or ds 0 0 ≡ 48 → length ds ≡ 1
alone [] some h e = absurd (omega arith)
alone (x ∷ []) some h e = refl
alone (x ∷ y ∷ ds) some h e = absurd (both_ways (eqb x 48) h (eq-eqb x 48 e))

-- a number has no leading zero
decimal-leads : (n : ℕ) → n < 256 → has_leading_zero (decimal n) ≡ false
decimal-leads zero lt = ap has_leading_zero (decimal_digit 0 (lit< tt))
decimal-leads (suc n) lt = no-leading (decimal (suc n)) (first_decimal (suc n) (omega arith) (omega arith))

-- the text of a number up to 255 reads as the number
pub part-complete : (n : ℕ) → n < 256 → part_of (decimal n) ≡ Some n
part-complete n lt =
    let text = decimal n in
    let value : digits_after 0 text ≡ n = digits_value-decimal own n (omega arith) in
    let some : leb 1 (length text) ≡ true = le-leb 1 (length text) (decimal_nonempty n (omega arith)) in
    let digits : list_all is_digit text ≡ true = digits_decimal own n (omega arith) in
    let short : leb (length text) 3 ≡ true = le-leb (length text) 3 (length-decimal-le 3 n (omega arith) (omega arith) (omega arith)) in
    let small : leb (digits_after 0 text) 255 ≡ true = le-leb (digits_after 0 text) 255 (omega arith) in
    cond-false (has_leading_zero text) _ _ (decimal-leads n lt)
    ∙ cond-true ((is_digits text && leb (length text) 3) && leb (digits_after 0 text) 255) _ _
    (and_from (is_digits text && leb (length text) 3) _ (and_from (is_digits text) _ (and_from (leb 1 (length text)) _ some digits) short) small)
    ∙ ap (λ (x : ℕ). Some x) value

-- what reads as a part of an address is the text of a number up to 255
pub part-sound : (text : List ℕ) (n : ℕ) → part_of text ≡ Some n → (n < 256) × (decimal n ≡ text)
part-sound text n h = by_lead (cases_Bool (has_leading_zero text)) where
  by_lead : (has_leading_zero text ≡ true) ⊎ (has_leading_zero text ≡ false) → (n < 256) × (decimal n ≡ text)
  by_lead (inl leads) =
      let bad : None ≡ Some n = sym (cond-true (has_leading_zero text) None (number_up_to 3 255 text) leads) ∙ h in
      absurd cc
  by_lead (inr free) =
      let read : number_up_to 3 255 text ≡ Some n = sym (cond-false (has_leading_zero text) None (number_up_to 3 255 text) free) ∙ h in
      let parts = cond_some ((is_digits text && leb (length text) 3) && leb (digits_after 0 text) 255) (digits_after 0 text) n read in
      let tests = and_parts (is_digits text && leb (length text) 3) _ parts.0 in
      let digits = and_parts (leb 1 (length text)) _ ((and_parts (is_digits text) _ tests.0).0) in
      let small = leb-true (digits_after 0 text) 255 tests.1 in
      let some = leb-true 1 (length text) digits.0 in
      let value : digits_after 0 text ≡ n = parts.1 in (
        omega (arith, small, value),
        ap decimal (sym value) ∙ decimal-digits_value own text digits.1 (omega arith) (alone text (omega arith) free) (omega arith),
      )

-- octets that all pass a test lack an octet that fails it
pub tested-lack : (test : ℕ → Bool) (c : ℕ) (text : List ℕ) → test c ≡ false → list_all test text ≡ true → Lacks c text
tested-lack test c [] other all = tt
tested-lack test c (x ∷ text) other all =
    let parts = and_parts (test x) (list_all test text) all in
    (ne_eqb x c (λ e. both_ways (test x) (ap test e ∙ other) parts.0), tested-lack test c text other parts.1)

-- the text of a number below 256 lacks each octet that is no digit
pub decimal-lacks : (c n : ℕ) → is_digit c ≡ false → n < 256 → Lacks c (decimal n)
decimal-lacks c n other lt = tested-lack is_digit c (decimal n) other (digits_decimal own n (omega arith))

-- four options together
abbrev four_of : Option ℕ → Option ℕ → Option ℕ → Option ℕ → Option (List ℕ)
four_of p q r s = p >>= λ a. q >>= λ b. r >>= λ c. s >>= λ d. Some (a ∷ b ∷ c ∷ d ∷ [])

record FourNumbers (p q r s : Option ℕ) (address : List ℕ) : Type 0 where
  a : ℕ
  b : ℕ
  c : ℕ
  d : ℕ
  first : p ≡ Some a
  second : q ≡ Some b
  third : r ≡ Some c
  fourth : s ≡ Some d
  all : a ∷ b ∷ c ∷ d ∷ [] ≡ address

four-numbers : (p q r s : Option ℕ) (address : List ℕ) → four_of p q r s ≡ Some address → FourNumbers p q r s address
four-numbers None q r s address h = absurd cc
four-numbers (Some a) None r s address h = absurd cc
four-numbers (Some a) (Some b) None s address h = absurd cc
four-numbers (Some a) (Some b) (Some c) None address h = absurd cc
four-numbers (Some a) (Some b) (Some c) (Some d) address h =
    record { a = a; b = b; c = c; d = d; first = refl; second = refl; third = refl; fourth = refl; all = cc }

-- what is worked out of four parts
parts-sound : (parts : List (List ℕ)) (address : List ℕ) → ipv4_of_parts parts ≡ Some address → IsIpv4Text (separated (46 ∷ []) parts) address
parts-sound [] address h = absurd cc
parts-sound (p ∷ []) address h = absurd cc
parts-sound (p ∷ q ∷ []) address h = absurd cc
parts-sound (p ∷ q ∷ r ∷ []) address h = absurd cc
parts-sound (p ∷ q ∷ r ∷ s ∷ []) address h =
    let n = four-numbers (part_of p) (part_of q) (part_of r) (part_of s) address h in
    let a = part-sound p n.a n.first in
    let b = part-sound q n.b n.second in
    let c = part-sound r n.c n.third in
    let d = part-sound s n.d n.fourth in
    subst (IsIpv4Text (separated (46 ∷ []) (p ∷ q ∷ r ∷ s ∷ []))) n.all
    (record {
      four = refl;
      octets = and_from (ltb n.a 256) _ (lt-ltb n.a 256 a.0) (and_from (ltb n.b 256) _ (lt-ltb n.b 256 b.0)
          (and_from (ltb n.c 256) _ (lt-ltb n.c 256 c.0) (and_from (ltb n.d 256) _ (lt-ltb n.d 256 d.0) refl)));
      written = ap (λ (t : List ℕ). separated (46 ∷ []) (t ∷ q ∷ r ∷ s ∷ [])) (sym a.1)
          ∙ ap (λ (t : List ℕ). separated (46 ∷ []) (decimal n.a ∷ t ∷ r ∷ s ∷ [])) (sym b.1)
          ∙ ap (λ (t : List ℕ). separated (46 ∷ []) (decimal n.a ∷ decimal n.b ∷ t ∷ s ∷ [])) (sym c.1)
          ∙ ap (λ (t : List ℕ). separated (46 ∷ []) (decimal n.a ∷ decimal n.b ∷ decimal n.c ∷ t ∷ [])) (sym d.1);
    })
parts-sound (p ∷ q ∷ r ∷ s ∷ t ∷ parts) address h = absurd cc

-- a text that reads as an IPv4 address is a text of it
pub ipv4-sound : (text address : List ℕ) → ipv4_of text ≡ Some address → IsIpv4Text text address
ipv4-sound text address h =
    subst (λ (t : List ℕ). IsIpv4Text t address) (separated-split 46 text) (parts-sound (split_on 46 text) address h)

-- an address's own text lacks what is no digit and no dot
pub dotted-lacks : (c : ℕ) (address : List ℕ) → is_digit c ≡ false → eqb 46 c ≡ false → length address ≡ 4 → list_all is_octet address ≡ true → Lacks c (data_text (A address))
dotted-lacks c [] digit dot n ok = absurd (omega arith)
dotted-lacks c (a ∷ []) digit dot n ok = absurd (omega arith)
dotted-lacks c (a ∷ b ∷ []) digit dot n ok = absurd (omega arith)
dotted-lacks c (x ∷ y ∷ z ∷ []) digit dot n ok = absurd (omega arith)
dotted-lacks c (x ∷ y ∷ z ∷ w ∷ []) digit dot n ok =
    let one = and_parts (ltb x 256) _ ok in
    let two = and_parts (ltb y 256) _ one.1 in
    let three = and_parts (ltb z 256) _ two.1 in
    let four = and_parts (ltb w 256) _ three.1 in
    lacks-append c (decimal x) _ (decimal-lacks c x digit (ltb-true x 256 one.0)) (
      dot,
      lacks-append c (decimal y) _ (decimal-lacks c y digit (ltb-true y 256 two.0)) (
        dot,
        lacks-append c (decimal z) _ (decimal-lacks c z digit (ltb-true z 256 three.0))
            (dot, lacks-append c (decimal w) _ (decimal-lacks c w digit (ltb-true w 256 four.0)) tt),
      ),
    )
dotted-lacks c (x ∷ y ∷ z ∷ w ∷ v ∷ address) digit dot n ok = absurd (omega arith)

-- an address is worked out of its own text
own-text : (address : List ℕ) → length address ≡ 4 → list_all is_octet address ≡ true → ipv4_of (data_text (A address)) ≡ Some address
own-text [] n ok = absurd (omega arith)
own-text (a ∷ []) n ok = absurd (omega arith)
own-text (a ∷ b ∷ []) n ok = absurd (omega arith)
own-text (a ∷ b ∷ c ∷ []) n ok = absurd (omega arith)
own-text (a ∷ b ∷ c ∷ d ∷ []) n ok =
    let one = and_parts (ltb a 256) _ ok in
    let two = and_parts (ltb b 256) _ one.1 in
    let three = and_parts (ltb c 256) _ two.1 in
    let four = and_parts (ltb d 256) _ three.1 in
    let la = ltb-true a 256 one.0 in
    let lb = ltb-true b 256 two.0 in
    let lc = ltb-true c 256 three.0 in
    let ld = ltb-true d 256 four.0 in
    ap ipv4_of_parts (split-separated 46 (decimal a) (decimal b ∷ decimal c ∷ decimal d ∷ [])
    (decimal-lacks 46 a refl la, (decimal-lacks 46 b refl lb, (decimal-lacks 46 c refl lc, (decimal-lacks 46 d refl ld, tt)))))
    ∙ ap (λ (o : Option ℕ). four_of o (part_of (decimal b)) (part_of (decimal c)) (part_of (decimal d))) (part-complete a la)
    ∙ ap (λ (o : Option ℕ). four_of (Some a) o (part_of (decimal c)) (part_of (decimal d))) (part-complete b lb)
    ∙ ap (λ (o : Option ℕ). four_of (Some a) (Some b) o (part_of (decimal d))) (part-complete c lc)
    ∙ ap (λ (o : Option ℕ). four_of (Some a) (Some b) (Some c) o) (part-complete d ld)
own-text (a ∷ b ∷ c ∷ d ∷ e ∷ address) n ok = absurd (omega arith)

-- the address that a text stands for is worked out
pub ipv4-complete : (text address : List ℕ) → IsIpv4Text text address → ipv4_of text ≡ Some address
ipv4-complete text address h = ap ipv4_of h.written ∙ own-text address h.four h.octets
