-- The seconds of a time, octet by octet.
use Rattle.std.proofs.Common.{◌≡◌, ℕ, ◌+◌, ◌*◌, ◌-◌, ◌<◌, ◌≤◌, Bool, true, false, List, [], ◌∷◌, length, get_or, drop, cond, Option, Some, None, option_map, option_and_then, refl, ap, sym, ◌∙◌, leb, arith, add-one, add_assoc, drop-cons}
use Rattle.std.proofs.lemmas.Bool.{cond-true, cond-false, lt-leb, leb-true, and_parts}
use Rattle.std.proofs.lemmas.Option.{cond_some}
use Rattle.std.proofs.Math.Nat.{mul-le-mul_left}
use Rattle.std.specs.Prelude.{◌==◌, ◌&&◌, nat_le, IfSome}
use Rattle.std.specs.Option.{unwrap_or}
use Rattle.dns_data.specs.Octet.{is_digit, folded}
use Rattle.rdata_forms.specs.Times.{unit_of, with_digit, time_group_of, seconds_after, if_ttl, time_of}

-- the time that these seconds and the rest of a text make
abbrev pub time_from : ℕ → Bool → Option ℕ → List ℕ → Option ℕ
time_from seconds grouped value text = option_and_then if_ttl (option_map (λ others. seconds + others) (seconds_after grouped value text))

-- the number of seconds, if there is one, isn't below another
abbrev pub NotBelow : ℕ → Option ℕ → Type 0
NotBelow least None = Unit {0}
NotBelow least (Some seconds) = least ≤ seconds

-- a unit is at least a second
pub unit_some : (letter : ℕ) → NotBelow 1 (unit_of letter)
unit_some letter = units (folded letter == 119) (folded letter == 100) (folded letter == 104) (folded letter == 109) (folded letter == 115) where
  units : (w d h m s : Bool) → NotBelow 1 (cond w (Some 604800) (cond d (Some 86400) (cond h (Some 3600) (cond m (Some 60) (cond s (Some 1) None)))))
  units true d h m s = omega arith
  units false true h m s = omega arith
  units false false true m s = omega arith
  units false false false true s = omega arith
  units false false false false true = omega arith
  units false false false false false = tt

-- the seconds of a group that reads, and of what stands behind it
abbrev pub group_then : ℕ → Option ℕ → Option ℕ → Option ℕ
group_then seconds group others = option_and_then if_ttl (option_map (λ sum. seconds + sum) (option_and_then (λ first. option_map (λ rest. first + rest) others) group))

-- a digit goes to the value
pub time_from-digit : (seconds : ℕ) (grouped : Bool) (value : Option ℕ) (c : ℕ) (cs : List ℕ) → is_digit c ≡ true → time_from seconds grouped value (c ∷ cs) ≡ time_from seconds grouped (Some (with_digit value c)) cs
time_from-digit seconds grouped value c cs h =
    ap (λ (o : Option ℕ). option_and_then if_ttl (option_map (λ others. seconds + others) o)) (cond-true (is_digit c) _ _ h)

-- an octet that is no digit ends a group
pub time_from-letter : (seconds : ℕ) (grouped : Bool) (value : Option ℕ) (c : ℕ) (cs : List ℕ) → is_digit c ≡ false → time_from seconds grouped value (c ∷ cs) ≡ group_then seconds (time_group_of value c) (seconds_after true None cs)
time_from-letter seconds grouped value c cs h =
    ap (λ (o : Option ℕ). option_and_then if_ttl (option_map (λ others. seconds + others) o)) (cond-false (is_digit c) _ _ h)

-- more octets make no fewer seconds
pub seconds_after-ge : (grouped : Bool) (value : ℕ) (text : List ℕ) → NotBelow value (seconds_after grouped (Some value) text)
seconds_after-ge false value [] = omega arith
seconds_after-ge true value [] = tt
seconds_after-ge grouped value (c ∷ cs) =
    by_octet (is_digit c) (weaker value (value * 10 + (c - 48)) _ (omega arith) (seconds_after-ge grouped (value * 10 + (c - 48)) cs)) where
      in_unit : (unit others : Option ℕ) → NotBelow 1 unit → NotBelow value (option_and_then (λ first. option_map (λ rest. first + rest) others) (option_map (λ u. value * u) unit))
      in_unit None others h = tt
      in_unit (Some u) None h = tt
      in_unit (Some u) (Some others) h = let more : value * 1 ≤ value * u = mul-le-mul_left value h in omega arith

      weaker : (least more : ℕ) (o : Option ℕ) → least ≤ more → NotBelow more o → NotBelow least o
      weaker least more None h below = tt
      weaker least more (Some seconds) h below = omega arith

      by_octet : (b : Bool) → NotBelow value (seconds_after grouped (Some (with_digit (Some value) c)) cs) → NotBelow value (cond b (seconds_after grouped (Some (with_digit (Some value) c)) cs) (option_and_then (λ first. option_map (λ rest. first + rest) (seconds_after true None cs)) (time_group_of (Some value) c)))
      by_octet true more = more
      by_octet false more = in_unit (unit_of c) (seconds_after true None cs) (unit_some c)

-- seconds that are more than a TTL may have are no TTL
pub if_ttl-large : (least : ℕ) (o : Option ℕ) → 2147483647 < least → NotBelow least o → option_and_then if_ttl o ≡ None
if_ttl-large least None large below = refl
if_ttl-large least (Some seconds) large below = cond-false (leb seconds 2147483647) _ _ (lt-leb seconds 2147483647 (omega arith))

-- digits whose value is too large make no time
pub time_from-large : (seconds : ℕ) (grouped : Bool) (value : ℕ) (text : List ℕ) → 2147483647 < value → time_from seconds grouped (Some value) text ≡ None
time_from-large seconds grouped value text large =
    if_ttl-large value _ large (added (seconds_after grouped (Some value) text) (seconds_after-ge grouped value text))
  where
    added : (o : Option ℕ) → NotBelow value o → NotBelow value (option_map (λ others. seconds + others) o)
    added None h = tt
    added (Some others) h = omega arith

-- a group that reads goes to the seconds
pub group_then-some : (seconds group : ℕ) (text : List ℕ) → group_then seconds (Some group) (seconds_after true None text) ≡ time_from (seconds + group) true None text
group_then-some seconds group text = added (seconds_after true None text) where
  added : (o : Option ℕ) → group_then seconds (Some group) o ≡ option_and_then if_ttl (option_map (λ others. seconds + group + others) o)
  added None = refl
  added (Some others) = ap if_ttl (sym (add_assoc seconds group others))

-- a group that reads and keeps the sum within the largest time goes to the seconds
pub group_then-taken : (seconds sum : ℕ) (group : Option ℕ) (text : List ℕ) → option_and_then if_ttl (option_map (λ more. seconds + more) group) ≡ Some sum → group_then seconds group (seconds_after true None text) ≡ time_from sum true None text
group_then-taken seconds sum None text h = cc
group_then-taken seconds sum (Some group) text h =
    group_then-some seconds group text ∙ ap (λ (total : ℕ). time_from total true None text) ((cond_some (leb (seconds + group) 2147483647) (seconds + group) sum h).1)

-- a time's text from a place on is the octet there and what is behind it
pub time_from-at : (seconds : ℕ) (grouped : Bool) (value : Option ℕ) (text : List ℕ) (i : ℕ) → i < length text → time_from seconds grouped value (drop i text) ≡ time_from seconds grouped value (get_or text i 0 ∷ drop (i + 1) text)
time_from-at seconds grouped value text i h = ap (time_from seconds grouped value) (drop-cons text i 0 h ∙ ap (λ (k : ℕ). get_or text i 0 ∷ drop k text) (sym (add-one i)))

-- the time goes on with the digit at a place
pub time_from-digit_at : (seconds : ℕ) (grouped : Bool) (value : Option ℕ) (text : List ℕ) (i : ℕ) → i < length text → is_digit (get_or text i 0) ≡ true → time_from seconds grouped value (drop i text) ≡ time_from seconds grouped (Some (with_digit value (get_or text i 0))) (drop (i + 1) text)
time_from-digit_at seconds grouped value text i lt h =
    time_from-at seconds grouped value text i lt ∙ time_from-digit seconds grouped value (get_or text i 0) (drop (i + 1) text) h

-- the digit at a place makes too large a value
pub time_from-stopped : (seconds : ℕ) (grouped : Bool) (value : Option ℕ) (text : List ℕ) (i : ℕ) → i < length text → is_digit (get_or text i 0) ≡ true → 2147483647 < with_digit value (get_or text i 0) → time_from seconds grouped value (drop i text) ≡ None
time_from-stopped seconds grouped value text i lt h large =
    time_from-digit_at seconds grouped value text i lt h ∙ time_from-large seconds grouped (with_digit value (get_or text i 0)) (drop (i + 1) text) large

-- the octet at a place ends a group of a time, if it is no digit
pub time_from-letter_at : (seconds : ℕ) (grouped : Bool) (value : Option ℕ) (text : List ℕ) (i : ℕ) → i < length text → is_digit (get_or text i 0) ≡ false → time_from seconds grouped value (drop i text) ≡ group_then seconds (time_group_of value (get_or text i 0)) (seconds_after true None (drop (i + 1) text))
time_from-letter_at seconds grouped value text i lt h =
    time_from-at seconds grouped value text i lt ∙ time_from-letter seconds grouped value (get_or text i 0) (drop (i + 1) text) h

-- The state of a reading: the seconds of the groups so far, whether there is one, the value of the digits under
-- way, and what is left of the text.
pub record IsUnderWay (seconds : ℕ) (grouped : Bool) (value : Option ℕ) (rest text : List ℕ) : Type 0 where
  pub whole : time_from seconds grouped value rest ≡ time_of text
  pub bound : seconds ≤ 2147483647
  pub small : IfSome value (λ value. value ≤ 2147483647)
  pub alone : grouped ≡ false → seconds ≡ 0

-- a digit leaves the reading under way
pub under_way-digit : (seconds : ℕ) (grouped : Bool) (value : Option ℕ) (text : List ℕ) (i before next : ℕ) → IsUnderWay seconds grouped value (drop i text) text → i < length text → before ≡ unwrap_or value 0 → (is_digit (get_or text i 0) && nat_le (before * 10 + (get_or text i 0 - 48)) 2147483647) ≡ true → next ≡ before * 10 + (get_or text i 0 - 48) → IsUnderWay seconds grouped (Some next) (drop (i + 1) text) text
under_way-digit seconds grouped value text i before next h lt old fits e =
    let c = get_or text i 0 in
    let parts = and_parts (is_digit c) (nat_le (before * 10 + (c - 48)) 2147483647) fits in
    let le = leb-true (before * 10 + (c - 48)) 2147483647 parts.1 in
    record {
      whole = ap (λ (n : ℕ). time_from seconds grouped (Some n) (drop (i + 1) text)) (e ∙ ap (λ (n : ℕ). n * 10 + (c - 48)) old)
          ∙ sym (time_from-digit_at seconds grouped value text i lt parts.0) ∙ h.whole;
      bound = h.bound;
      small = omega (arith, e, le);
      alone = h.alone;
    }

-- a letter leaves the reading under way
pub under_way-letter : (seconds : ℕ) (grouped : Bool) (value : Option ℕ) (text : List ℕ) (i digits sum : ℕ) → IsUnderWay seconds grouped value (drop i text) text → i < length text → is_digit (get_or text i 0) ≡ false → value ≡ Some digits → Some sum ≡ option_and_then if_ttl (option_map (λ group. seconds + group) (time_group_of (Some digits) (get_or text i 0))) → IsUnderWay sum true None (drop (i + 1) text) text
under_way-letter seconds grouped value text i digits sum h lt letter e taken =
    let c = get_or text i 0 in
    record {
      whole = sym (group_then-taken seconds sum (time_group_of value c) (drop (i + 1) text)
          (ap (λ (v : Option ℕ). option_and_then if_ttl (option_map (λ group. seconds + group) (time_group_of v c))) e ∙ sym taken))
          ∙ sym (time_from-letter_at seconds grouped value text i lt letter) ∙ h.whole;
      bound = taken_bound (option_map (λ group. seconds + group) (time_group_of (Some digits) c)) taken;
      small = tt;
      alone = λ bad. cc;
    }
  where
    taken_bound : (o : Option ℕ) → Some sum ≡ option_and_then if_ttl o → sum ≤ 2147483647
    taken_bound None bad = cc
    taken_bound (Some n) e = let parts = cond_some (leb n 2147483647) n sum (sym e) in let le = leb-true n 2147483647 parts.0 in omega (arith, parts.1)
