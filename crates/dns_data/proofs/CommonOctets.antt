-- Octets that two lists both begin with, found eight at a time.
use Rattle.std.proofs.Common.{◌≡◌, ℕ, zero, suc, ◌+◌, ◌*◌, ◌/◌, ◌^◌, ◌<◌, ◌≤◌, Bool, true, false, cond, nat_eq, List, [], ◌∷◌, length, take, drop, min, Ordering, sym, refl, ap, ◌∙◌, subst, get_or, inl, inr, arith}
use Rattle.std.specs.Prelude.{bit_xor}
use Rattle.std.specs.List.{common_prefix_len}
use Rattle.std.specs.Ordering.{nat_cmp, ordering_then}
use Rattle.std.specs.declared.cmp.Ordering.TheVariants.{Less, Equal, Greater}
use Rattle.std.specs.Cmp.Lexicographic.{slice_cmp, bytes_decides}
use lib.Pointwise.{pointwise}
use Rattle.std.specs.Int.Bits.{xor_self, xor_add_and}
use Rattle.std.specs.Int.Count.{count_leading_zeros}
use Rattle.std.proofs.lemmas.Bool.{eqb-true, eqb-false, eq-eqb, ne_eqb, cases_lt}
use Rattle.std.proofs.lemmas.Cmp.{ranked}
use Rattle.std.proofs.lemmas.List.{length-take-le, length-drop, take_all}
use Rattle.std.proofs.lemmas.List.Sums.{common_prefix_len-le, common_prefix_len-drop_yes, common_prefix_len-drop_no}
use Rattle.std.proofs.lemmas.Nat.{xor_lt, xor_block, and_le_l, and_le_r, leading_top, leading_length, pow-add, pow_pos, mul-add-lt}
use Rattle.std.proofs.Math.Nat.{pow-le-pow_right, le-mul_of_pos_right, mul_comm}
use Rattle.dns_data.specs.BigEndian.{written_number}
use Rattle.dns_data.proofs.Searches.{same_truth}

-- how many octets both begin with
abbrev pub common : List ℕ → List ℕ → ℕ
common xs ys = common_prefix_len nat_eq xs ys

-- two lists with so many common octets in front are the same there, and the others are compared behind them
pub common_split : (n : ℕ) (xs ys : List ℕ) → n ≤ common xs ys → (common xs ys ≡ n + common (drop n xs) (drop n ys)) × (take n xs ≡ take n ys)
common_split zero xs ys h = (omega arith, refl)
common_split (suc n) [] ys h = absurd (omega arith)
common_split (suc n) (x ∷ xs) [] h = absurd (omega arith)
common_split (suc n) (x ∷ xs) (y ∷ ys) h = by (nat_eq x y) refl h (common_split n xs ys) where
  by : (b : Bool) → nat_eq x y ≡ b → suc n ≤ cond b (1 + common xs ys) 0
      → (n ≤ common xs ys → (common xs ys ≡ n + common (drop n xs) (drop n ys)) × (take n xs ≡ take n ys))
      → (cond b (1 + common xs ys) 0 ≡ suc n + common (drop n xs) (drop n ys)) × (x ∷ take n xs ≡ y ∷ take n ys)
  by true e h rest =
      let both = rest (omega arith) in
      (omega (arith, both.0), ap (λ (l : List ℕ). x ∷ l) both.1 ∙ ap (λ (o : ℕ). o ∷ take n ys) (eqb-true x y e))
  by false e h rest = absurd (omega arith)

-- the first so many octets of two lists have in common what the lists have in common, up to so many
pub common_take : (n : ℕ) (xs ys : List ℕ) → common (take n xs) (take n ys) ≡ min n (common xs ys)
common_take zero xs ys = omega arith
common_take (suc n) [] ys = omega arith
common_take (suc n) (x ∷ xs) [] = omega arith
common_take (suc n) (x ∷ xs) (y ∷ ys) = by (nat_eq x y) (common_take n xs ys) where
  by : (b : Bool) → common (take n xs) (take n ys) ≡ min n (common xs ys) → cond b (1 + common (take n xs) (take n ys)) 0 ≡ min (suc n) (cond b (1 + common xs ys) 0)
  by true rest = omega (arith, rest)
  by false rest = omega arith

same_stands : (x y : ℕ) (r : Ordering) → r ≡ nat_cmp x y → x ≡ y → r ≡ Equal
same_stands x y Less h e = let l : x < y = ranked x y Less h in absurd (omega arith)
same_stands x y Equal h e = refl
same_stands x y Greater h e = let l : y < x = ranked x y Greater h in absurd (omega arith)

less_stands : (x y : ℕ) (r : Ordering) → r ≡ nat_cmp x y → x < y → r ≡ Less
less_stands x y Less h l = refl
less_stands x y Equal h l = let e : x ≡ y = ranked x y Equal h in absurd (omega arith)
less_stands x y Greater h l = let g : y < x = ranked x y Greater h in absurd (omega arith)

greater_stands : (x y : ℕ) (r : Ordering) → r ≡ nat_cmp x y → y < x → r ≡ Greater
greater_stands x y Less h g = let l : x < y = ranked x y Less h in absurd (omega arith)
greater_stands x y Equal h g = let e : x ≡ y = ranked x y Equal h in absurd (omega arith)
greater_stands x y Greater h g = refl

next_stand : (x y : ℕ) → nat_cmp x y ≡ nat_cmp (suc x) (suc y)
next_stand x y = by (nat_cmp x y) refl where
  by : (r : Ordering) → r ≡ nat_cmp x y → r ≡ nat_cmp (suc x) (suc y)
  by Less h = let l : x < y = ranked x y Less h in sym (less_stands (suc x) (suc y) _ refl (omega arith))
  by Equal h = let e : x ≡ y = ranked x y Equal h in sym (same_stands (suc x) (suc y) _ refl (omega arith))
  by Greater h = let g : y < x = ranked x y Greater h in sym (greater_stands (suc x) (suc y) _ refl (omega arith))

-- a comparison of different numbers decides before whatever is compared behind them
pub decided : (x y : ℕ) (r after : Ordering) → r ≡ nat_cmp x y → (x ≡ y → ⊥) → ordering_then r after ≡ r
decided x y Less after h n = refl
decided x y Equal after h n = absurd (n (ranked x y Equal h))
decided x y Greater after h n = refl

-- the first octet that differs decides
pub common_decides : (xs ys : List ℕ) → common xs ys < length xs → common xs ys < length ys
    → (slice_cmp nat_cmp xs ys ≡ nat_cmp (get_or xs (common xs ys) 0) (get_or ys (common xs ys) 0)) × (get_or xs (common xs ys) 0 ≡ get_or ys (common xs ys) 0 → ⊥)
common_decides [] ys h k = absurd (omega arith)
common_decides (x ∷ xs) [] h k = absurd (omega arith)
common_decides (x ∷ xs) (y ∷ ys) h k = by (nat_eq x y) refl h k (common_decides xs ys) where
  by : (b : Bool) → nat_eq x y ≡ b → cond b (1 + common xs ys) 0 < suc (length xs) → cond b (1 + common xs ys) 0 < suc (length ys)
      → (common xs ys < length xs → common xs ys < length ys → (slice_cmp nat_cmp xs ys ≡ nat_cmp (get_or xs (common xs ys) 0) (get_or ys (common xs ys) 0)) × (get_or xs (common xs ys) 0 ≡ get_or ys (common xs ys) 0 → ⊥))
      → (ordering_then (nat_cmp x y) (slice_cmp nat_cmp xs ys) ≡ nat_cmp (get_or (x ∷ xs) (cond b (1 + common xs ys) 0) 0) (get_or (y ∷ ys) (cond b (1 + common xs ys) 0) 0))
      × (get_or (x ∷ xs) (cond b (1 + common xs ys) 0) 0 ≡ get_or (y ∷ ys) (cond b (1 + common xs ys) 0) 0 → ⊥)
  by true e h k rest =
      let both = rest (omega arith) (omega arith) in
      let next : suc (common xs ys) ≡ 1 + common xs ys = omega arith in
      subst
      (λ (i : ℕ). (ordering_then (nat_cmp x y) (slice_cmp nat_cmp xs ys) ≡ nat_cmp (get_or (x ∷ xs) i 0) (get_or (y ∷ ys) i 0)) × (get_or (x ∷ xs) i 0 ≡ get_or (y ∷ ys) i 0 → ⊥))
      next
      (ap (λ (o : Ordering). ordering_then o (slice_cmp nat_cmp xs ys)) (same_stands x y (nat_cmp x y) refl (eqb-true x y e)) ∙ both.0, both.1)
  by false e h k rest = (decided x y (nat_cmp x y) _ refl (eqb-false x y e), eqb-false x y e)

-- if one list is a front of the other, their lengths decide the order
pub common_ends : (xs ys : List ℕ) → (common xs ys < length xs → common xs ys < length ys → ⊥) → slice_cmp nat_cmp xs ys ≡ nat_cmp (length xs) (length ys)
common_ends [] [] h = refl
common_ends [] (y ∷ ys) h = sym (less_stands 0 (suc (length ys)) _ refl (omega arith))
common_ends (x ∷ xs) [] h = sym (greater_stands (suc (length xs)) 0 _ refl (omega arith))
common_ends (x ∷ xs) (y ∷ ys) h = by (nat_eq x y) refl h (common_ends xs ys) where
  by : (b : Bool) → nat_eq x y ≡ b → (cond b (1 + common xs ys) 0 < suc (length xs) → cond b (1 + common xs ys) 0 < suc (length ys) → ⊥)
      → ((common xs ys < length xs → common xs ys < length ys → ⊥) → slice_cmp nat_cmp xs ys ≡ nat_cmp (length xs) (length ys))
      → ordering_then (nat_cmp x y) (slice_cmp nat_cmp xs ys) ≡ nat_cmp (suc (length xs)) (suc (length ys))
  by true e h rest =
      ap (λ (o : Ordering). ordering_then o (slice_cmp nat_cmp xs ys)) (same_stands x y (nat_cmp x y) refl (eqb-true x y e))
      ∙ rest (λ l m. h (omega arith) (omega arith))
      ∙ next_stand (length xs) (length ys)
  by false e h rest = absurd (h (omega arith) (omega arith))

-- ---- numbers of octets

-- each is below 256
abbrev pub Small : List ℕ → Type 0
Small [] = Unit {0}
Small (x ∷ xs) = (x < 256) × Small xs

-- a number has no more bits than its octets
number_below : (xs : List ℕ) → Small xs → written_number xs < 2 ^ (8 * length xs)
number_below [] h = omega arith
number_below (x ∷ xs) h =
    let whole : x * 2 ^ (8 * length xs) + written_number xs < 2 ^ (8 * length xs) * 256 = mul-add-lt x (2 ^ (8 * length xs)) (written_number xs) 256 h.0 (number_below xs h.1) in
    let split : 2 ^ (8 + 8 * length xs) ≡ 2 ^ 8 * 2 ^ (8 * length xs) = pow-add 2 8 (8 * length xs) in
    let size : 8 * suc (length xs) ≡ 8 + 8 * length xs = omega arith in
    subst (λ (k : ℕ). written_number (x ∷ xs) < 2 ^ k) (sym size) (omega (arith, whole, split))

-- an exponent is less where its power is
exponent_below : (i j : ℕ) → 2 ^ i < 2 ^ j → i < j
exponent_below i j h = elim (cases_lt i j) [
  | inl less ↦ less
  | inr most ↦ absurd (omega (arith, h, pow-le-pow_right {n = 2} (omega arith) most))
]

-- of a number that has eight bits fewer
wider : (k v : ℕ) → v < 2 ^ k → count_leading_zeros (8 + k) v ≡ 8 + count_leading_zeros k v
wider k v h =
    let split : 2 ^ (8 + k) ≡ 2 ^ 8 * 2 ^ k = pow-add 2 8 k in
    let own = leading_length k v h in
    let whole = leading_length (8 + k) v (omega (arith, h, split)) in
    let double = λ (m : ℕ). pow-add 2 1 m in
    let le : own.0 < 1 + whole.0 = exponent_below own.0 (1 + whole.0) (omega (arith, own.3, whole.2, double whole.0)) in
    let ge : whole.0 < 1 + own.0 = exponent_below whole.0 (1 + own.0) (omega (arith, whole.3, own.2, double own.0)) in
    omega (arith, own.1, whole.1, le, ge)

-- of a number with one of its first eight bits
top_bit : (k c t : ℕ) → 0 < c → c * 2 ^ k + t < 2 ^ (8 + k) → count_leading_zeros (8 + k) (c * 2 ^ k + t) ≤ 7
top_bit k c t some h =
    let least : 2 ^ k ≤ 2 ^ k * c = le-mul_of_pos_right (2 ^ k) some in
    let turned : 2 ^ k * c ≡ c * 2 ^ k = mul_comm (2 ^ k) c in
    let top = leading_top (8 + k) (c * 2 ^ k + t) (omega (arith, least, turned, pow_pos k)) h in
    let high : k < suc top.0 = exponent_below k (suc top.0) (omega (arith, top.3, least, turned)) in
    omega (arith, top.1, high)

-- numbers without an unlike bit are one
no_bit : (x y : ℕ) → bit_xor x y ≡ 0 → x ≡ y
no_bit x y e = omega (arith, e, xor_add_and x y, and_le_l x y, and_le_r x y)

-- the unlike bits of two numbers, of which the first octet comes before the others
unlike_bits : (x y : ℕ) (xs ys : List ℕ) → length xs ≡ length ys → Small xs → Small ys
    → bit_xor (written_number (x ∷ xs)) (written_number (y ∷ ys)) ≡ bit_xor x y * 2 ^ (8 * length xs) + bit_xor (written_number xs) (written_number ys)
unlike_bits x y xs ys e h k =
    ap (λ (n : ℕ). bit_xor (written_number (x ∷ xs)) (y * 2 ^ (8 * n) + written_number ys)) (sym e)
    ∙ xor_block (8 * length xs) x y (written_number xs) (written_number ys) (number_below xs h) (subst (λ (n : ℕ). written_number ys < 2 ^ (8 * n)) (sym e) (number_below ys k))

-- the leading zeros of the unlike bits tell how many octets both begin with
pub leading_tell : (xs ys : List ℕ) → length xs ≡ length ys → Small xs → Small ys → count_leading_zeros (8 * length xs) (bit_xor (written_number xs) (written_number ys)) / 8 ≡ common xs ys
unfolding count_leading_zeros
leading_tell [] [] e h k = refl
leading_tell [] (y ∷ ys) e h k = absurd (omega (arith, e))
leading_tell (x ∷ xs) [] e h k = absurd (omega (arith, e))
leading_tell (x ∷ xs) (y ∷ ys) e h k =
    ap (λ (n : ℕ). count_leading_zeros n (bit_xor (written_number (x ∷ xs)) (written_number (y ∷ ys))) / 8) size
    ∙ ap (λ (v : ℕ). count_leading_zeros (8 + bits) v / 8) (unlike_bits x y xs ys lengths h.1 k.1)
    ∙ by (nat_eq x y) refl (leading_tell xs ys (omega (arith, e)) h.1 k.1)
  where
    bits : ℕ
    bits = 8 * length xs

    lengths : length xs ≡ length ys
    lengths = omega (arith, e)

    size : 8 * suc (length xs) ≡ 8 + 8 * length xs
    size = omega arith

    rest : ℕ
    rest = bit_xor (written_number xs) (written_number ys)

    rest_below : rest < 2 ^ bits
    rest_below = xor_lt (8 * length xs) (written_number xs) (written_number ys) (number_below xs h.1) (subst (λ (n : ℕ). written_number ys < 2 ^ (8 * n)) (sym lengths) (number_below ys k.1))

    all_below : bit_xor x y * 2 ^ bits + rest < 2 ^ (8 + bits)
    all_below =
        subst (λ (v : ℕ). v < 2 ^ (8 + bits)) (unlike_bits x y xs ys lengths h.1 k.1)
        (subst (λ (n : ℕ). bit_xor (written_number (x ∷ xs)) (written_number (y ∷ ys)) < 2 ^ n) size
        (xor_lt (8 * suc (length xs)) (written_number (x ∷ xs)) (written_number (y ∷ ys)) (number_below (x ∷ xs) h) (subst (λ (n : ℕ). written_number (y ∷ ys) < 2 ^ (8 * n)) (sym e) (number_below (y ∷ ys) k))))

    by : (b : Bool) → nat_eq x y ≡ b → count_leading_zeros bits rest / 8 ≡ common xs ys → count_leading_zeros (8 + bits) (bit_xor x y * 2 ^ bits + rest) / 8 ≡ cond b (1 + common xs ys) 0
    by true same told =
        let none : bit_xor x y * 2 ^ bits + rest ≡ rest = ap (λ (z : ℕ). bit_xor x z * 2 ^ bits + rest) (sym (eqb-true x y same)) ∙ ap (λ (z : ℕ). z * 2 ^ bits + rest) (xor_self x) ∙ omega arith in
        let wide : count_leading_zeros (8 + bits) (bit_xor x y * 2 ^ bits + rest) ≡ 8 + count_leading_zeros bits rest = ap (count_leading_zeros (8 + bits)) none ∙ wider bits rest rest_below in
        omega (arith, wide, told)
    by false differ told =
        let some : 0 < bit_xor x y = elim (cases_lt 0 (bit_xor x y)) [
          | inl some ↦ some
          | inr none ↦ absurd (eqb-false x y differ (no_bit x y (omega arith)))
        ] in
        let few : count_leading_zeros (8 + bits) (bit_xor x y * 2 ^ bits + rest) ≤ 7 = top_bit bits (bit_xor x y) rest some all_below in
        omega (arith, few)

-- octets of which each is below 256, and parts of them
small_all : (xs : List ℕ) → ((i : ℕ) → get_or xs i 0 < 256) → Small xs
small_all [] h = tt
small_all (x ∷ xs) h = (h 0, small_all xs (λ i. h (suc i)))

small_take : (n : ℕ) (xs : List ℕ) → Small xs → Small (take n xs)
small_take zero xs h = tt
small_take (suc n) [] h = tt
small_take (suc n) (x ∷ xs) h = (h.0, small_take n xs h.1)

small_drop : (n : ℕ) (xs : List ℕ) → Small xs → Small (drop n xs)
small_drop zero xs h = h
small_drop (suc n) [] h = tt
small_drop (suc n) (x ∷ xs) h = small_drop n xs h.1

small_part : (n : ℕ) (xs : List ℕ) (at : ℕ) → ((i : ℕ) → get_or xs i 0 < 256) → Small (take n (drop at xs))
small_part n xs at h = small_take n (drop at xs) (small_drop at xs (small_all xs h))

-- the leading zeros of the unlike bits of eight octets of each list tell how many of these are common
pub eight_common : (xs ys : List ℕ) (at p q : ℕ) → at + 8 ≤ length xs → at + 8 ≤ length ys → ((i : ℕ) → get_or xs i 0 < 256) → ((i : ℕ) → get_or ys i 0 < 256)
    → p ≡ written_number (take 8 (drop at xs)) → q ≡ written_number (take 8 (drop at ys)) → count_leading_zeros 64 (bit_xor p q) / 8 ≡ common (take 8 (drop at xs)) (take 8 (drop at ys))
eight_common xs ys at p q h k small few e f =
    let size = λ (l : List ℕ) (room : at + 8 ≤ length l). length_of_part l room in
    (λ i. count_leading_zeros 64 (bit_xor (e i) (f i)) / 8)
    ∙ ap (λ (n : ℕ). count_leading_zeros (8 * n) (bit_xor (written_number (take 8 (drop at xs))) (written_number (take 8 (drop at ys)))) / 8) (sym (size xs h))
    ∙ leading_tell (take 8 (drop at xs)) (take 8 (drop at ys)) (size xs h ∙ sym (size ys k)) (small_part 8 xs at small) (small_part 8 ys at few)
  where
    length_of_part : (l : List ℕ) → at + 8 ≤ length l → length (take 8 (drop at l)) ≡ 8
    length_of_part l room = length-take-le 8 (drop at l) (omega (arith, length-drop at l))

-- how many of the next eight octets of two lists are common says how many are common from the start
pub eight_tell : (xs ys : List ℕ) (at n : ℕ) → at ≤ common xs ys → n ≡ common (take 8 (drop at xs)) (take 8 (drop at ys))
    → (n ≤ 8) × (n < 8 → common xs ys ≡ at + n) × (at + n ≤ common xs ys)
eight_tell xs ys at n h e =
    let split = (common_split at xs ys h).0 in
    let part = common_take 8 (drop at xs) (drop at ys) in
    (omega (arith, e, part), λ few. omega (arith, e, part, split), omega (arith, e, part, split))

-- how many of the last eight octets of the shorter list are common says how many are common from the start
pub last_tell : (xs ys : List ℕ) (at n : ℕ) → at ≤ common xs ys → at + 8 ≡ min (length xs) (length ys) → n ≡ common (take 8 (drop at xs)) (take 8 (drop at ys))
    → common xs ys ≡ at + n
last_tell xs ys at n h room e =
    let split = (common_split at xs ys h).0 in
    let part = common_take 8 (drop at xs) (drop at ys) in
    omega (arith, e, part, split, common_prefix_len-le nat_eq xs ys)

-- if the octets behind some common ones are the same too, one octet more is common
pub one_more : (xs ys : List ℕ) (n : ℕ) → n ≤ common xs ys → n < length xs → n < length ys → get_or xs n 0 ≡ get_or ys n 0 → n + 1 ≤ common xs ys
one_more xs ys n h k l e = omega (arith, (common_split n xs ys h).0, common_prefix_len-drop_yes nat_eq xs ys n 0 0 k l (eq-eqb _ _ e))

-- a place up to which both are the same, and at which both have an octet and these differ, is the number of octets that
-- both begin with
pub no_more : (xs ys : List ℕ) (n : ℕ) → n ≤ common xs ys → n < length xs → n < length ys → (get_or xs n 0 ≡ get_or ys n 0 → ⊥) → n ≡ common xs ys
no_more xs ys n h k l e = omega (arith, (common_split n xs ys h).0, common_prefix_len-drop_no nat_eq xs ys n 0 0 k l (ne_eqb _ _ e))

-- the first octets that differ decide the order of two lists
pub order_inside : (xs ys : List ℕ) (n : ℕ) (r : Ordering) → n ≡ common xs ys → n < length xs → n < length ys → r ≡ nat_cmp (get_or xs n 0) (get_or ys n 0) → r ≡ slice_cmp nat_cmp xs ys
order_inside xs ys n r e h k is =
    is ∙ ap (λ (i : ℕ). nat_cmp (get_or xs i 0) (get_or ys i 0)) e ∙ sym (common_decides xs ys (omega arith) (omega arith)).0

-- if one list is a front of the other, the order of the lists is that of their lengths
pub order_ends : (xs ys : List ℕ) (n : ℕ) (r : Ordering) → n ≡ common xs ys → min (length xs) (length ys) ≤ n → r ≡ nat_cmp (length xs) (length ys) → r ≡ slice_cmp nat_cmp xs ys
order_ends xs ys n r e h is = is ∙ sym (common_ends xs ys (λ k l. absurd (omega arith)))

-- all are the same exactly where both begin with all
common_whole : (xs : List ℕ) → common xs xs ≡ length xs
common_whole [] = refl
common_whole (x ∷ xs) = ap (λ (b : Bool). cond b (1 + common xs xs) 0) (eq-eqb x x refl) ∙ omega (arith, common_whole xs)

-- lists of one length are the same exactly if all their octets are common
pub same_tell : (xs ys : List ℕ) (n : ℕ) → n ≡ common xs ys → length xs ≡ length ys → nat_eq n (length xs) ≡ pointwise nat_eq xs ys
same_tell xs ys n e lengths = same_truth _ _
    (λ all. let most : length xs ≤ common xs ys = omega (arith, e, eqb-true n (length xs) all) in
    (bytes_decides xs ys).1 (sym (take_all (length xs) xs (omega arith)) ∙ (common_split (length xs) xs ys most).1 ∙ take_all (length xs) ys (omega (arith, lengths))))
    (λ same. eq-eqb n (length xs) (e ∙ ap (common xs) (sym ((bytes_decides xs ys).0 same)) ∙ common_whole xs))
