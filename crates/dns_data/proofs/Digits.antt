-- Digits one after another.
use Rattle.std.proofs.Common.{◌≡◌, ℕ, ◌+◌, ◌*◌, ◌-◌, ◌<◌, ◌≤◌, ◌&&◌, ◌⊎◌, Bool, true, false, List, [], ◌∷◌, length, get_or, drop, cond, nat_le, Option, Some, None, ap, sym, ◌∙◌, inl, inr, arith, add-one, drop-cons, if◌then◌else◌}
use Rattle.std.proofs.lemmas.Bool.{and_from, and_right, cond-false, leb-false, le-leb, lt-leb, cases_Bool}
use Rattle.std.proofs.Math.Bool.{and-true}
use Rattle.std.specs.List.{list_all}
use Rattle.dns_data.specs.Octet.{is_digit, digits_after}
use Rattle.dns_data.specs.Number.{number_up_to}

-- the number that digits make behind others of this value, if it is at most this
abbrev pub number_from : ℕ → ℕ → List ℕ → Option ℕ
number_from most value text =
    if list_all is_digit text && nat_le (digits_after value text) most then Some (digits_after value text) else None

-- more digits make no smaller number
pub digits_after-ge : (value : ℕ) (text : List ℕ) → value ≤ digits_after value text
digits_after-ge value [] = omega arith
digits_after-ge value (c ∷ cs) = let more = digits_after-ge (value * 10 + (c - 48)) cs in omega arith

-- a digit is part of the number that octets write
pub number_from-digit : (most value c : ℕ) (cs : List ℕ) → is_digit c ≡ true → number_from most value (c ∷ cs) ≡ number_from most (value * 10 + (c - 48)) cs
number_from-digit most value c cs h =
    ap (λ (b : Bool). cond ((b && list_all is_digit cs) && nat_le (digits_after (value * 10 + (c - 48)) cs) most) (Some (digits_after (value * 10 + (c - 48)) cs)) None) h

-- octets with one that isn't a digit write no number
pub number_from-other : (most value c : ℕ) (cs : List ℕ) → is_digit c ≡ false → number_from most value (c ∷ cs) ≡ None
number_from-other most value c cs h =
    ap (λ (b : Bool). cond ((b && list_all is_digit cs) && nat_le (digits_after (value * 10 + (c - 48)) cs) most) (Some (digits_after (value * 10 + (c - 48)) cs)) None) h

-- if the value so far is above the limit, the octets write no number
pub number_from-large : (most value : ℕ) (text : List ℕ) → most < value → number_from most value text ≡ None
number_from-large most value text h =
    let ge = digits_after-ge value text in
    cond-false (list_all is_digit text && nat_le (digits_after value text) most) _ _
    (and_right (list_all is_digit text) _ (lt-leb (digits_after value text) most (omega arith)))

-- a digit that doesn't go on makes too large a value
pub too_large : (most value : ℕ) (digit : Bool) → digit ≡ true → ((digit && nat_le value most) ≡ true → ⊥) → most < value
too_large most value digit is_one h = by_size (cases_Bool (nat_le value most)) where
  by_size : (nat_le value most ≡ true) ⊎ (nat_le value most ≡ false) → most < value
  by_size (inl small) = absurd (h (and_from digit (nat_le value most) is_one small))
  by_size (inr large) = leb-false value most large

-- no digit fits behind the value
pub number_from-stop : (most value c : ℕ) (cs : List ℕ) → ((is_digit c && nat_le (value * 10 + (c - 48)) most) ≡ true → ⊥) → number_from most value (c ∷ cs) ≡ None
number_from-stop most value c cs h =
    elim (cases_Bool (is_digit c)) [
      | inl yes_digit ↦ number_from-digit most value c cs yes_digit ∙ number_from-large most _ cs (too_large most (value * 10 + (c - 48)) (is_digit c) yes_digit h)
      | inr no_digit ↦ number_from-other most value c cs no_digit
    ]

-- octets from a place on are the octet there and those behind it
pub number_from-at : (most value : ℕ) (text : List ℕ) (i : ℕ) → i < length text → number_from most value (drop i text) ≡ number_from most value (get_or text i 0 ∷ drop (i + 1) text)
number_from-at most value text i h = ap (number_from most value) (drop-cons text i 0 h ∙ ap (λ (k : ℕ). get_or text i 0 ∷ drop k text) (sym (add-one i)))

-- where the length is right the number is that of the digits
pub number_up_to-from : (digits most : ℕ) (text : List ℕ) → 1 ≤ length text → length text ≤ digits → number_up_to digits most text ≡ number_from most 0 text
number_up_to-from digits most text some short =
    let value = digits_after 0 text in
    ap (λ (b : Bool). cond (((b && list_all is_digit text) && nat_le (length text) digits) && nat_le value most) (Some value) None) (le-leb 1 (length text) some)
    ∙ ap (λ (b : Bool). cond ((list_all is_digit text && b) && nat_le value most) (Some value) None) (le-leb (length text) digits short)
    ∙ ap (λ (b : Bool). cond (b && nat_le value most) (Some value) None) (and-true (list_all is_digit text))

-- no number where the octet at a place can't go on
pub number_from-stopped : (most value : ℕ) (text : List ℕ) (i : ℕ) → i < length text → ((is_digit (get_or text i 0) && nat_le (value * 10 + (get_or text i 0 - 48)) most) ≡ true → ⊥) → number_from most value (drop i text) ≡ None
number_from-stopped most value text i lt h = number_from-at most value text i lt ∙ number_from-stop most value (get_or text i 0) (drop (i + 1) text) h
