-- The representative of a class where the labels a, b, .. below a name are taken: the first letter that isn't.
use Rattle.std.proofs.Common.{◌≡◌, inl, inr, ℕ, zero, suc, ◌+◌, ◌-◌, ◌<◌, ◌≤◌, ◌==◌, Bool, true, false, ◌&&◌, List, [], ◌∷◌, ◌++◌, length, refl, sym, subst, arith}
use Rattle.std.specs.Prelude.{nat_le, if◌then◌else◌}
use Rattle.std.specs.Ordering.{nat_cmp, ordering_then}
use Rattle.std.specs.Cmp.{nat_cmp_is}
use Rattle.std.specs.declared.cmp.Ordering.{Ordering}
use Rattle.std.specs.declared.cmp.Ordering.TheVariants.{Less, Equal, Greater}
use Rattle.std.proofs.lemmas.Bool.{and_parts, leb-true, lt-ltb, and_right}
use Rattle.std.proofs.lemmas.Bool.Decides.{leb_tells}
use Rattle.dns_data.specs.Label.{IsLabel, is_label_octet}
use Rattle.dns_data.specs.Name.{Labels, is_among}
use Rattle.dns_data.proofs.Names.{is_name, is_name_tells}
use Rattle.std.specs.List.{list_all}
use Rattle.dns_data.specs.Octet.{is_lower, is_upper, is_digit}
use Rattle.net_model.specs.declared.class.Class.TheVariants.{Below}
use Rattle.net_model.specs.Class.{IsRepresentative, octet_rank, trial_cmp}
use Rattle.net_model.specs.Reading.{Ground, IsNamed}
use Rattle.net_model.proofs.Naming.{named_within, named, unnamed_all, unnamed}

-- neither equal nor greater is less
not_less : (x y : ℕ) → y ≤ x → nat_cmp x y ≡ Less → ⊥
not_less x y le h =
    elim (leb_tells (suc y) x) [
      | inl (is, gt) ↦ let greater : Greater ≡ nat_cmp x y = nat_cmp_is x y Greater gt in cc
      | inr (is, ge) ↦
          let same : x ≡ y = omega arith in
          let equal : Equal ≡ nat_cmp x y = nat_cmp_is x y Equal same in cc
    ]

-- every octet that is no letter is tried behind the letters
beyond_letters : (y : ℕ) (digit hyphen underscore : Bool)
    → 26 ≤ (if digit then y - 48 + 26 else (if hyphen then 36 else (if underscore then 37 else y + 38)))
beyond_letters y true hyphen underscore = omega arith
beyond_letters y false true underscore = omega arith
beyond_letters y false false true = omega arith
beyond_letters y false false false = omega arith

-- the greater of two lengths decides
greater_decides : (o p : Ordering) → Greater ≡ o → ordering_then o p ≡ Less → ⊥
greater_decides Less p e h = cc
greater_decides Equal p e h = cc
greater_decides Greater p e h = cc

-- a lower case letter is no upper case letter
not_upper : (n : ℕ) → n ≤ 25 → is_upper (97 + n) ≡ false
not_upper n bound = by_test (nat_le (97 + n) 90) refl
  where
    by_test : (le : Bool) → nat_le (97 + n) 90 ≡ le → is_upper (97 + n) ≡ false
    by_test true e = let le : 97 + n ≤ 90 = leb-true (97 + n) 90 e in absurd (omega arith)
    by_test false e = and_right (nat_le 65 (97 + n)) (nat_le (97 + n) 90) e

-- a lower case letter is an octet of a label
letter_is_label : (n : ℕ) → n ≤ 25 → list_all is_label_octet ((97 + n) ∷ []) ≡ true
letter_is_label n bound =
    rw (lt-ltb (97 + n) 256 (omega arith)) (rw (not_upper n bound) refl)

-- the lesser of two numbers
less : (x y : ℕ) → nat_cmp x y ≡ Less → x < y
less x y h =
    elim (leb_tells (suc x) y) [
      | inl (is, lt) ↦ lt
      | inr (is, le) ↦ absurd (not_less x y (omega arith) h)
    ]

-- an octet that is tried before the n-th letter is an earlier letter
earlier_letter : (y n : ℕ) → n ≤ 26 → octet_rank y < n → (97 ≤ y) × (y < 97 + n)
earlier_letter y n small h = by_kind (is_lower y) refl
  where
    by_kind : (lower : Bool) → is_lower y ≡ lower → (97 ≤ y) × (y < 97 + n)
    by_kind true e =
        let low : 97 ≤ y = leb-true 97 y (and_parts (nat_le 97 y) (nat_le y 122) e).0 in
        let rank : octet_rank y ≡ y - 97 = rw e refl in
        (low, omega (arith, rank))
    by_kind false e =
        let rank : octet_rank y ≡ (if is_digit y then y - 48 + 26 else (if y == 45 then 36 else (if y == 95 then 37 else y + 38))) = rw e refl in
        let far : 26 ≤ octet_rank y = subst (λ r. 26 ≤ r) (sym rank) (beyond_letters y (is_digit y) (y == 45) (y == 95)) in
        absurd (omega arith)

-- the first of two items decides, unless they are equal
first_decides : (o : Ordering) → ordering_then o Equal ≡ Less → o ≡ Less
first_decides Less h = refl
first_decides Equal h = cc
first_decides Greater h = cc

-- a label that is tried before a letter is an earlier letter
tried_before : (letter n : ℕ) → octet_rank letter ≡ n → n ≤ 26 → (other : List ℕ) → IsLabel other
    → trial_cmp other (letter ∷ []) ≡ Less → (y : ℕ) × ((other ≡ y ∷ []) × (97 ≤ y) × (y < 97 + n))
tried_before letter n rank small [] is h = absurd (omega (arith, is.not_empty))
tried_before letter n rank small (y ∷ []) is h =
    let before : octet_rank y < octet_rank letter = less (octet_rank y) (octet_rank letter) (first_decides _ h) in
    let bounds : (97 ≤ y) × (y < 97 + n) = earlier_letter y n small (omega (arith, before, rank)) in
    (y, (refl, bounds.0, bounds.1))
tried_before letter n rank small (y ∷ z ∷ rest) is h =
    let longer : Greater ≡ nat_cmp (length (y ∷ z ∷ rest)) 1 = nat_cmp_is (length (y ∷ z ∷ rest)) 1 Greater (omega arith) in
    absurd (greater_decides _ _ longer h)

-- the first n letters, put below the name, make named names
abbrev pub letters_named : ℕ → ℕ → Ground → Labels → Bool
letters_named depth zero ground above = true
letters_named depth (suc n) ground above =
    named_within depth ground (above ++ ((97 + n) ∷ []) ∷ []) && letters_named depth n ground above

letter_named : (depth n : ℕ) (ground : Ground) (above : Labels) (y : ℕ) → letters_named depth n ground above ≡ true → 97 ≤ y → y < 97 + n
    → IsNamed ground (above ++ (y ∷ []) ∷ [])
letter_named depth zero ground above y h low high = absurd (omega arith)
letter_named depth (suc n) ground above y h low high =
    elim (leb_tells (suc y) (97 + n)) [
      | inl (is, lt) ↦ letter_named depth n ground above y (and_parts (named_within depth ground (above ++ ((97 + n) ∷ []) ∷ [])) _ h).1 low lt
      | inr (is, le) ↦
          let same : 97 + n ≡ y = omega arith in
          subst (λ (c : ℕ). IsNamed ground (above ++ (c ∷ []) ∷ [])) same
          (named depth ground _ (and_parts (named_within depth ground (above ++ ((97 + n) ∷ []) ∷ [])) _ h).0)
    ]

-- the name with the first letter that makes an unnamed name is the representative
pub below_represented : (depth : ℕ) (ground : Ground) (names : List Labels) (above : Labels) (letter n : ℕ)
    → letter ≡ 97 + n → octet_rank letter ≡ n → nat_le n 25 ≡ true
    → (unnamed_all ground names && is_among names (above ++ (letter ∷ []) ∷ []) && letters_named depth n ground above
    && is_name (above ++ (letter ∷ []) ∷ [])) ≡ true
    → IsRepresentative ground (Below above) (above ++ (letter ∷ []) ∷ [])
below_represented depth ground names above letter n is rank small h =
    let three : (unnamed_all ground names && is_among names (above ++ (letter ∷ []) ∷ []) && letters_named depth n ground above) ≡ true =
    (and_parts _ (is_name (above ++ (letter ∷ []) ∷ [])) h).0 in
    let two : (unnamed_all ground names && is_among names (above ++ (letter ∷ []) ∷ [])) ≡ true =
    (and_parts _ (letters_named depth n ground above) three).0 in
    let bound : n ≤ 25 = leb-true n 25 small in
    record {
      label = letter ∷ [];
      first = record {
        is_label = record {
          not_empty = omega arith;
          short = omega arith;
          octets = rw is (letter_is_label n bound);
        };
        unnamed = unnamed ground names _ (and_parts (unnamed_all ground names) _ two).0 (and_parts (unnamed_all ground names) _ two).1;
        first = λ other other_is before.
            let (y, (same, low, high)) = tried_before letter n rank (omega arith) other other_is before in
            subst (λ (l : List ℕ). IsNamed ground (above ++ l ∷ [])) (sym same)
            (letter_named depth n ground above y (and_parts (unnamed_all ground names && is_among names (above ++ (letter ∷ []) ∷ [])) _ three).1 low high);
      };
      extends = refl;
      is_name = is_name_tells _ (and_parts (unnamed_all ground names && is_among names (above ++ (letter ∷ []) ∷ []) && letters_named depth n ground above) _ h).1;
    }
