-- Keys of names: where those of two names below one name differ, the names stand as they do.
use Rattle.std.proofs.Common.{◌≡◌, ℕ, zero, suc, ◌+◌, ◌*◌, ◌<◌, ◌≤◌, true, false, List, [], ◌∷◌, ◌++◌, length, drop, Option, Some, None, Bor, Ordering, Less, Equal, Greater, sym, refl, ap, ◌∙◌, subst, arith}
use Rattle.std.specs.Cmp.Lexicographic.{slice_cmp}
use Rattle.std.specs.Int.{w64, from_be_bytes}
use Rattle.std.specs.List.{list_all, common_prefix_len}
use Rattle.std.specs.Prelude.{MatchOption, slice_index}
use Rattle.std.specs.Ordering.{nat_cmp, ordering_then, ordering_reverse}
use Rattle.std.proofs.Math.Seq.{drop-append_seam}
use Rattle.std.proofs.lemmas.Bool.{and_parts, false_from_ne_true}
use Rattle.std.proofs.lemmas.Bool.Decides.{nat_tests}
use Rattle.std.proofs.lemmas.Cmp.{ranked}
use Rattle.std.proofs.lemmas.List.{append-nil, drop_all, drop-drop, length-drop, take-append-drop, take_all}
use Rattle.dns_data.specs.Label.{IsLabel, is_label_octet, label_eq}
use Rattle.dns_data.specs.Name.{Labels, name_cmp, is_prefix}
use Rattle.dns_data.proofs.CommonFronts.{common_front, both_begin}
use Rattle.dns_data.proofs.CommonOctets.{Small}
use Rattle.dns_data.proofs.NameFronts.{Begins, is_prefix_tells, is_prefix_told, begins_itself}
use Rattle.dns_data.proofs.NameOrder.{names_total, under_label}
use Rattle.name_table.specs.Keys.{first_octets, label_key, IsKey, IsKeyBelow}

-- ---- octets and the numbers that they write

small_octets : (octets : List ℕ) → list_all is_label_octet octets ≡ true → Small octets
small_octets [] h = tt
small_octets (x ∷ octets) h =
    let parts = and_parts (is_label_octet x) (list_all is_label_octet octets) h in
    let small : x < 256 = grind (arith, nat_tests, parts.0) in
    (small, small_octets octets parts.1)

-- the number that octets write behind others of this value
abbrev number_after : ℕ → List ℕ → ℕ
number_after value [] = value
number_after value (octet ∷ octets) = number_after (value * 256 + octet) octets

-- eight octets write the number that they make one after another
one_by_one : (a b c d e f g h : ℕ)
    → from_be_bytes w64 (a ∷ b ∷ c ∷ d ∷ e ∷ f ∷ g ∷ h ∷ []) ≡ number_after 0 (a ∷ b ∷ c ∷ d ∷ e ∷ f ∷ g ∷ h ∷ [])
one_by_one a b c d e f g h = omega arith

-- numbers stay in their order, whatever octets follow
stay_before : (v w : ℕ) (xs ys : List ℕ) → v < w → length xs ≡ length ys → Small xs → number_after v xs < number_after w ys
stay_before v w [] [] lower same small = lower
stay_before v w [] (y ∷ ys) lower same small = absurd (omega arith)
stay_before v w (x ∷ xs) [] lower same small = absurd (omega arith)
stay_before v w (x ∷ xs) (y ∷ ys) lower same small =
    stay_before (v * 256 + x) (w * 256 + y) xs ys (omega (arith, lower, small.0)) (omega (arith, same)) small.1

-- as many octets stand as their numbers do
number_tells : (v : ℕ) (xs ys : List ℕ) → length xs ≡ length ys → Small xs → Small ys → number_after v xs < number_after v ys → slice_cmp nat_cmp xs ys ≡ Less
number_tells v [] [] same small also lower = absurd (omega (arith, lower))
number_tells v [] (y ∷ ys) same small also lower = refl
number_tells v (x ∷ xs) [] same small also lower = absurd (omega arith)
number_tells v (x ∷ xs) (y ∷ ys) same small also lower =
    by (nat_cmp x y) refl (number_tells (v * 256 + x) xs ys (omega (arith, same)) small.1 also.1)
  where
    by : (o : Ordering) → o ≡ nat_cmp x y → (number_after (v * 256 + x) xs < number_after (v * 256 + x) ys → slice_cmp nat_cmp xs ys ≡ Less)
        → ordering_then o (slice_cmp nat_cmp xs ys) ≡ Less
    by Less e rest = refl
    by Equal e rest =
        rest (subst (λ (z : ℕ). number_after (v * 256 + x) xs < number_after (v * 256 + z) ys) (sym (ranked x y Equal e)) lower)
    by Greater e rest =
        let back : y < x = ranked x y Greater e in
        absurd (omega (arith, lower, stay_before (v * 256 + y) (v * 256 + x) ys xs (omega (arith, back)) (omega (arith, same)) also.1))

-- ---- the first octets of a label

-- so many octets: the first ones, with zeros behind those of a shorter list
abbrev padded : ℕ → List ℕ → List ℕ
padded zero octets = []
padded (suc n) [] = 0 ∷ padded n []
padded (suc n) (octet ∷ octets) = octet ∷ padded n octets

first_padded : (label : List ℕ) → first_octets label ≡ padded 8 label
first_padded [] = refl
first_padded (a ∷ []) = refl
first_padded (a ∷ b ∷ []) = refl
first_padded (a ∷ b ∷ c ∷ []) = refl
first_padded (a ∷ b ∷ c ∷ d ∷ []) = refl
first_padded (a ∷ b ∷ c ∷ d ∷ e ∷ []) = refl
first_padded (a ∷ b ∷ c ∷ d ∷ e ∷ f ∷ []) = refl
first_padded (a ∷ b ∷ c ∷ d ∷ e ∷ f ∷ g ∷ []) = refl
first_padded (a ∷ b ∷ c ∷ d ∷ e ∷ f ∷ g ∷ h ∷ more) = refl

padded_length : (n : ℕ) (xs : List ℕ) → length (padded n xs) ≡ n
padded_length zero xs = refl
padded_length (suc n) [] = omega (arith, padded_length n [])
padded_length (suc n) (x ∷ xs) = omega (arith, padded_length n xs)

padded_small : (n : ℕ) (xs : List ℕ) → Small xs → Small (padded n xs)
padded_small zero xs h = tt
padded_small (suc n) [] h = (omega arith, padded_small n [] tt)
padded_small (suc n) (x ∷ xs) h = (h.0, padded_small n xs h.1)

none_before_nil : (xs : List ℕ) → slice_cmp nat_cmp xs [] ≡ Less → ⊥
none_before_nil [] e = cc
none_before_nil (x ∷ xs) e = cc

-- lists stand as their first octets do
padded_tells : (n : ℕ) (a b : List ℕ) → slice_cmp nat_cmp (padded n a) (padded n b) ≡ Less → slice_cmp nat_cmp a b ≡ Less
padded_tells zero a b e = absurd (none_before_nil [] e)
padded_tells (suc n) [] [] e = padded_tells n [] [] e
padded_tells (suc n) [] (y ∷ ys) e = refl
padded_tells (suc n) (x ∷ xs) [] e = by (nat_cmp x 0) refl e (padded_tells n xs []) where
  by : (o : Ordering) → o ≡ nat_cmp x 0 → ordering_then o (slice_cmp nat_cmp (padded n xs) (padded n [])) ≡ Less
      → (slice_cmp nat_cmp (padded n xs) (padded n []) ≡ Less → slice_cmp nat_cmp xs [] ≡ Less) → Greater ≡ Less
  by Less is h rest = absurd (omega (arith, ranked x 0 Less is))
  by Equal is h rest = absurd (none_before_nil xs (rest h))
  by Greater is h rest = h
padded_tells (suc n) (x ∷ xs) (y ∷ ys) e = by (nat_cmp x y) e (padded_tells n xs ys) where
  by : (o : Ordering) → ordering_then o (slice_cmp nat_cmp (padded n xs) (padded n ys)) ≡ Less
      → (slice_cmp nat_cmp (padded n xs) (padded n ys) ≡ Less → slice_cmp nat_cmp xs ys ≡ Less) → ordering_then o (slice_cmp nat_cmp xs ys) ≡ Less
  by Less h rest = refl
  by Equal h rest = rest h
  by Greater h rest = h

-- the key of a label is the number of its first octets
key_is : (label : List ℕ) → label_key label ≡ number_after 0 (padded 8 label)
key_is label =
    one_by_one (slice_index label 0) (slice_index label 1) (slice_index label 2) (slice_index label 3)
    (slice_index label 4) (slice_index label 5) (slice_index label 6) (slice_index label 7)
    ∙ ap (number_after 0) (first_padded label)

-- a label with the lower key stands before the other
label_before : (a b : List ℕ) → IsLabel a → IsLabel b → label_key a < label_key b → slice_cmp nat_cmp a b ≡ Less
label_before a b is also lower =
    padded_tells 8 a b
    (number_tells 0 (padded 8 a) (padded 8 b) (padded_length 8 a ∙ sym (padded_length 8 b))
    (padded_small 8 a (small_octets a is.octets)) (padded_small 8 b (small_octets b also.octets))
    (subst (λ (n : ℕ). n < number_after 0 (padded 8 b)) (key_is a) (subst (λ (n : ℕ). label_key a < n) (key_is b) lower)))

-- ---- names below one name

-- where a label is taken off, or there is none, one label less is left
pub one_less : (taken : Option (Bor (List ℕ))) (below rest labels : Labels) (count : ℕ)
    → MatchOption taken (below ≡ []) (λ label. below ≡ label.now ∷ rest) → MatchOption taken (rest ≡ []) (λ _. length rest < length below)
    → below ≡ drop count labels → rest ≡ drop (count + 1) labels
one_less None below rest labels count first none is =
    let few : length labels ≤ count = omega (arith, ap (λ (xs : Labels). length xs) (sym is ∙ first), length-drop count labels) in
    none ∙ sym (drop_all (count + 1) labels (omega (arith, few)))
one_less (Some label) below rest labels count first none is = ap (drop 1) (sym first ∙ is) ∙ drop-drop 1 count labels

-- labels with the lower key stand before the others
key_before : (a b : Labels) (own other : ℕ) → IsKey a own → IsKey b other → own < other → name_cmp a b ≡ Less
key_before [] [] own other is also lower = absurd (omega (arith, is, also, lower))
key_before [] (label ∷ b) own other is also lower = refl
key_before (label ∷ a) [] own other is also lower = absurd (omega (arith, also, lower))
key_before (first ∷ a) (second ∷ b) own other is also lower =
    let less : label_key first < label_key second =
    subst (λ (n : ℕ). n < label_key second) is.1 (subst (λ (n : ℕ). own < n) also.1 lower) in
    ap (λ (o : Ordering). ordering_then o (name_cmp a b)) (label_before first second is.0 also.0 less)

-- labels above both don't change how two names stand
pub under_labels : (above a b : Labels) → name_cmp (above ++ a) (above ++ b) ≡ name_cmp a b
under_labels [] a b = refl
under_labels (label ∷ above) a b = under_label label (above ++ a) (above ++ b) ∙ under_labels above a b

-- names below one name stand as their keys do, where these differ
pub keys_tell : (above x y : Labels) (own other : ℕ) → IsKeyBelow above x own → IsKeyBelow above y other → (own ≡ other → ⊥) → nat_cmp own other ≡ name_cmp x y
keys_tell above x y own other is also differ = by (nat_cmp own other) refl where
  both : name_cmp x y ≡ name_cmp is.below also.below
  both =
      ap (λ (z : Labels). name_cmp z y) (sym is.is) ∙ ap (name_cmp (above ++ is.below)) (sym also.is) ∙ under_labels above is.below also.below

  by : (o : Ordering) → o ≡ nat_cmp own other → o ≡ name_cmp x y
  by Less e = sym (both ∙ key_before is.below also.below own other is.is_key also.is_key (ranked own other Less e))
  by Equal e = absurd (differ (ranked own other Equal e))
  by Greater e =
      sym (both ∙ names_total.antisymm is.below also.below
      ∙ ap ordering_reverse (key_before also.below is.below other own also.is_key is.is_key (ranked own other Greater e)))

-- the key of the labels of a name behind so many is its key below the name of these first labels
pub key_of_begun : (above name : Labels) (count key : ℕ) → count ≡ length above → is_prefix above name ≡ true → IsKey (drop count name) key → IsKeyBelow above name key
key_of_begun above name count key many inside is =
    let begins : Begins above name = is_prefix_tells above name inside in
    let rest : drop count name ≡ begins.0 =
    ap (λ (n : ℕ). drop n name) many ∙ ap (drop (length above)) (sym begins.1) ∙ drop-append_seam above begins.0 in
    record { below = begins.0; is = begins.1; is_key = subst (λ (xs : Labels). IsKey xs key) rest is }

-- a name that has all labels of another in common with it is at or below it
pub common_inside : (name above : Labels) → length above ≤ common_prefix_len label_eq name above → is_prefix above name ≡ true
common_inside name above all =
    is_prefix_told above name (
      drop (length above) name,
      ap (λ (x : Labels). x ++ drop (length above) name)
          (sym (common_front (length above) name above all ∙ take_all (length above) above (omega arith)))
          ∙ take-append-drop (length above) name,
    )

-- a name that has not all labels of another in common with it is neither at nor below it
pub fewer_outside : (name above : Labels) → common_prefix_len label_eq name above < length above → is_prefix above name ≡ false
fewer_outside name above fewer =
    false_from_ne_true (is_prefix above name) (λ inside.
    omega (arith, fewer, both_begin above name above (is_prefix_tells above name inside) (is_prefix_tells above above (begins_itself above))))

-- a name with a key below another is at or below it
pub key_inside : (above name : Labels) (key : ℕ) → IsKeyBelow above name key → is_prefix above name ≡ true
key_inside above name key is = is_prefix_told above name (is.below, is.is)

-- how a name stands to another with a label below one above both
pub order_under : (above name : Labels) (count : ℕ) (label : List ℕ) → count ≡ length above → is_prefix above name ≡ true
    → name_cmp (drop count name) (label ∷ []) ≡ name_cmp name (above ++ label ∷ [])
order_under above name count label many inside =
    let begins : Begins above name = is_prefix_tells above name inside in
    let rest : drop count name ≡ begins.0 =
    ap (λ (n : ℕ). drop n name) many ∙ ap (drop (length above)) (sym begins.1) ∙ drop-append_seam above begins.0 in
    ap (λ (x : Labels). name_cmp x (label ∷ [])) rest
    ∙ sym (under_labels above begins.0 (label ∷ []))
    ∙ ap (λ (x : Labels). name_cmp x (above ++ label ∷ [])) begins.1

-- a name stands before those below it
pub before_below : (above : Labels) (label : List ℕ) → name_cmp above (above ++ label ∷ []) ≡ Less
before_below above label = ap (λ (x : Labels). name_cmp x (above ++ label ∷ [])) (sym (append-nil above)) ∙ under_labels above [] (label ∷ [])
