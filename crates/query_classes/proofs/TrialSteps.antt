-- The label that is tried next: none stands between.
use Rattle.std.proofs.Common.{◌≡◌, ◌∙◌, ℕ, zero, suc, ◌+◌, ◌-◌, ◌<◌, ◌≤◌, ◌⊎◌, true, List, [], ◌∷◌, ◌++◌, length, take, get_or, replicate, Ordering, Less, Equal, Greater, nat_cmp, inl, inr, sym, refl, ap, subst, append_assoc, arith}
use Rattle.std.specs.Cmp.{nat_cmp_is}
use Rattle.std.specs.List.{list_all}
use Rattle.std.specs.Ordering.{ordering_then}
use Rattle.std.proofs.lemmas.Bool.{cases_lt, and_parts, and_from}
use Rattle.std.proofs.lemmas.List.Folds.{list_all-append}
use Rattle.std.proofs.lemmas.Bool.Decides.{nat_tests}
use Rattle.std.proofs.lemmas.List.{length-append, length-replicate, length-take-le, take_more}
use Rattle.dns_data.specs.Label.{IsLabel, is_label_octet}
use Rattle.net_model.specs.Class.{octet_rank, trial_cmp}
use Rattle.net_model.proofs.FirstLabel.{by_octets, shorter_first}
use Rattle.net_model.proofs.TrialOrder.{exact_trials}
use Rattle.query_classes.specs.Trials.{AreNextOctets, IsLabelBehind, IsLastBut, IsOctetBehind}

-- how two numbers compare
data Compared (m n : ℕ) : Type 0 where
  lower : nat_cmp m n ≡ Less → m < n → Compared m n
  same : nat_cmp m n ≡ Equal → m ≡ n → Compared m n
  higher : nat_cmp m n ≡ Greater → n < m → Compared m n

compared : (m n : ℕ) → Compared m n
compared m n =
    elim (cases_lt m n) [
      | inl below ↦ lower (sym (nat_cmp_is m n Less below)) below
      | inr not_below ↦ elim (cases_lt n m) [
        | inl above ↦ higher (sym (nat_cmp_is m n Greater above)) above
        | inr not_above ↦ (let is : m ≡ n = omega arith in same (sym (nat_cmp_is m n Equal is)) is)
      ]
    ]

-- octets of one rank are one
octet_exact : (x y : ℕ) → octet_rank x ≡ octet_rank y → x ≡ y
octet_exact x y e =
    let tied : nat_cmp (octet_rank x) (octet_rank y) ≡ Equal = sym (nat_cmp_is (octet_rank x) (octet_rank y) Equal e) in
    let whole : trial_cmp (x ∷ []) (y ∷ []) ≡ Equal = ap (λ (o : Ordering). ordering_then o Equal) tied in
    ap (λ (l : List ℕ). get_or l 0 0) (exact_trials (x ∷ []) (y ∷ []) whole)

-- no octet is tried behind 255
rank_most : (octet : ℕ) → is_label_octet octet ≡ true → octet_rank octet ≤ octet_rank 255
rank_most octet is = grind (arith, nat_tests, is)

-- octets are all 255, or tried before as many of these
last_of_length : (k : ℕ) (octets : List ℕ) → length octets ≡ k → list_all is_label_octet octets ≡ true
    → (octets ≡ replicate k 255) ⊎ (by_octets octets (replicate k 255) ≡ Less)
last_of_length zero [] size each = inl refl
last_of_length zero (octet ∷ octets) size each = absurd (omega arith)
last_of_length (suc k) [] size each = absurd (omega arith)
last_of_length (suc k) (octet ∷ octets) size each =
    by (compared (octet_rank octet) (octet_rank 255)) (last_of_length k octets (omega arith) parts.1)
  where
    parts : (is_label_octet octet ≡ true) × (list_all is_label_octet octets ≡ true)
    parts = and_parts (is_label_octet octet) (list_all is_label_octet octets) each

    rest_of : octet ≡ 255 → nat_cmp (octet_rank octet) (octet_rank 255) ≡ Equal → (octets ≡ replicate k 255) ⊎ (by_octets octets (replicate k 255) ≡ Less)
        → (octet ∷ octets ≡ 255 ∷ replicate k 255) ⊎ (by_octets (octet ∷ octets) (255 ∷ replicate k 255) ≡ Less)
    rest_of is tied (inl all) = inl (ap (λ (o : ℕ). o ∷ octets) is ∙ ap (λ (l : List ℕ). 255 ∷ l) all)
    rest_of is tied (inr less) = inr (ap (λ (o : Ordering). ordering_then o (by_octets octets (replicate k 255))) tied ∙ less)

    by : Compared (octet_rank octet) (octet_rank 255) → (octets ≡ replicate k 255) ⊎ (by_octets octets (replicate k 255) ≡ Less)
        → (octet ∷ octets ≡ 255 ∷ replicate k 255) ⊎ (by_octets (octet ∷ octets) (255 ∷ replicate k 255) ≡ Less)
    by (lower less below) rest = inr (ap (λ (o : Ordering). ordering_then o (by_octets octets (replicate k 255))) less)
    by (same tied is) rest = rest_of (octet_exact octet 255 is) tied rest
    by (higher greater above) rest = absurd (let most : octet_rank octet ≤ octet_rank 255 = rank_most octet parts.0 in omega arith)

-- none are tried before as many letters a
none_first : (k : ℕ) (octets : List ℕ) → length octets ≡ k → by_octets octets (replicate k 97) ≡ Less → ⊥
none_first zero [] size less = cc
none_first zero (octet ∷ octets) size less = omega arith
none_first (suc k) [] size less = omega arith
none_first (suc k) (octet ∷ octets) size less = by (compared (octet_rank octet) (octet_rank 97)) (none_first k octets (omega arith)) where
  by : Compared (octet_rank octet) (octet_rank 97) → (by_octets octets (replicate k 97) ≡ Less → ⊥) → ⊥
  by (lower e below) rest = (let none : octet_rank 97 ≡ 0 = refl in omega arith)
  by (same tied is) rest = rest (sym (ap (λ (o : Ordering). ordering_then o (by_octets octets (replicate k 97))) tied) ∙ less)
  by (higher greater above) rest =
      (let far : Greater ≡ Less = sym (ap (λ (o : Ordering). ordering_then o (by_octets octets (replicate k 97))) greater) ∙ less in cc)

-- where the octet before those that are last is raised, and they begin anew, nothing stands between
none_between : (front : List ℕ) (octet next k : ℕ) (other : List ℕ) → IsOctetBehind octet next → length other ≡ length front + suc k
    → list_all is_label_octet other ≡ true → by_octets other (front ++ next ∷ replicate k 97) ≡ Less
    → (other ≡ front ++ octet ∷ replicate k 255) ⊎ (by_octets other (front ++ octet ∷ replicate k 255) ≡ Less)
none_between [] octet next k [] behind size each less = absurd (omega arith)
none_between [] octet next k (o ∷ other) behind size each less = by (compared (octet_rank o) (octet_rank next)) where
  parts : (is_label_octet o ≡ true) × (list_all is_label_octet other ≡ true)
  parts = and_parts (is_label_octet o) (list_all is_label_octet other) each

  at_octet : octet_rank o ≤ octet_rank octet → (o ∷ other ≡ octet ∷ replicate k 255) ⊎ (by_octets (o ∷ other) (octet ∷ replicate k 255) ≡ Less)
  at_octet upto = go (compared (octet_rank o) (octet_rank octet)) (last_of_length k other (omega arith) parts.1) where
    go : Compared (octet_rank o) (octet_rank octet) → (other ≡ replicate k 255) ⊎ (by_octets other (replicate k 255) ≡ Less)
        → (o ∷ other ≡ octet ∷ replicate k 255) ⊎ (by_octets (o ∷ other) (octet ∷ replicate k 255) ≡ Less)
    go (lower e below) rest = inr (ap (λ (r : Ordering). ordering_then r (by_octets other (replicate k 255))) e)
    go (same tied is) (inl all) = inl (ap (λ (x : ℕ). x ∷ other) (octet_exact o octet is) ∙ ap (λ (l : List ℕ). octet ∷ l) all)
    go (same tied is) (inr fewer) = inr (ap (λ (r : Ordering). ordering_then r (by_octets other (replicate k 255))) tied ∙ fewer)
    go (higher e above) rest = absurd (omega arith)

  by : Compared (octet_rank o) (octet_rank next) → (o ∷ other ≡ octet ∷ replicate k 255) ⊎ (by_octets (o ∷ other) (octet ∷ replicate k 255) ≡ Less)
  by (lower e below) = at_octet (behind.first o parts.0 below)
  by (same tied is) =
      absurd (none_first k other (omega arith) (sym (ap (λ (r : Ordering). ordering_then r (by_octets other (replicate k 97))) tied) ∙ less))
  by (higher e above) =
      absurd (let far : Greater ≡ Less = sym (ap (λ (r : Ordering). ordering_then r (by_octets other (replicate k 97))) e) ∙ less in cc)
none_between (x ∷ front) octet next k [] behind size each less = absurd (omega arith)
none_between (x ∷ front) octet next k (o ∷ other) behind size each less =
    by (compared (octet_rank o) (octet_rank x)) (none_between front octet next k other behind (omega arith) (and_parts (is_label_octet o) (list_all is_label_octet other) each).1)
  where
    deeper : nat_cmp (octet_rank o) (octet_rank x) ≡ Equal → o ≡ x
        → (other ≡ front ++ octet ∷ replicate k 255) ⊎ (by_octets other (front ++ octet ∷ replicate k 255) ≡ Less)
        → (o ∷ other ≡ x ∷ (front ++ octet ∷ replicate k 255)) ⊎ (by_octets (o ∷ other) (x ∷ (front ++ octet ∷ replicate k 255)) ≡ Less)
    deeper tied is (inl all) = inl (ap (λ (z : ℕ). z ∷ other) is ∙ ap (λ (l : List ℕ). x ∷ l) all)
    deeper tied is (inr fewer) = inr (ap (λ (r : Ordering). ordering_then r (by_octets other (front ++ octet ∷ replicate k 255))) tied ∙ fewer)

    by : Compared (octet_rank o) (octet_rank x)
        → (by_octets other (front ++ next ∷ replicate k 97) ≡ Less → (other ≡ front ++ octet ∷ replicate k 255) ⊎ (by_octets other (front ++ octet ∷ replicate k 255) ≡ Less))
        → (o ∷ other ≡ x ∷ (front ++ octet ∷ replicate k 255)) ⊎ (by_octets (o ∷ other) (x ∷ (front ++ octet ∷ replicate k 255)) ≡ Less)
    by (lower e below) rest = inr (ap (λ (r : Ordering). ordering_then r (by_octets other (front ++ octet ∷ replicate k 255))) e)
    by (same tied is) rest =
        deeper tied (octet_exact o x is)
        (rest (sym (ap (λ (r : Ordering). ordering_then r (by_octets other (front ++ next ∷ replicate k 97))) tied) ∙ less))
    by (higher e above) rest =
        absurd (let far : Greater ≡ Less = sym (ap (λ (r : Ordering). ordering_then r (by_octets other (front ++ next ∷ replicate k 97))) e) ∙ less in cc)

-- and the raised one stands behind
raised_behind : (front : List ℕ) (octet next k : ℕ) → IsOctetBehind octet next
    → by_octets (front ++ octet ∷ replicate k 255) (front ++ next ∷ replicate k 97) ≡ Less
raised_behind [] octet next k behind =
    ap (λ (r : Ordering). ordering_then r (by_octets (replicate k 255) (replicate k 97))) (sym (nat_cmp_is (octet_rank octet) (octet_rank next) Less behind.behind))
raised_behind (x ∷ front) octet next k behind =
    ap (λ (r : Ordering). ordering_then r (by_octets (front ++ octet ∷ replicate k 255) (front ++ next ∷ replicate k 97)))
    (sym (nat_cmp_is (octet_rank x) (octet_rank x) Equal refl))
    ∙ raised_behind front octet next k behind

-- ---- labels

-- labels of one length by their octets
same_length : (a b : List ℕ) → length a ≡ length b → trial_cmp a b ≡ by_octets a b
same_length a b e = ap (λ (o : Ordering). ordering_then o (by_octets a b)) (sym (nat_cmp_is (length a) (length b) Equal e))

-- a longer one isn't
not_longer : (a b : List ℕ) → length b < length a → trial_cmp a b ≡ Less → ⊥
not_longer a b longer less =
    let far : Greater ≡ Less =
    sym (ap (λ (o : Ordering). ordering_then o (by_octets a b)) (sym (nat_cmp_is (length a) (length b) Greater longer))) ∙ less in
    cc

-- each label is the one of 63 octets 255, or is tried before it
pub last_label_of_all : (label : List ℕ) → length label ≡ 63 → label ≡ replicate 63 255 → (other : List ℕ) → IsLabel other
    → (other ≡ label) ⊎ (trial_cmp other label ≡ Less)
last_label_of_all label size all other is =
    elim (cases_lt (length other) (length label)) [
      | inl shorter ↦ inr (shorter_first other label shorter)
      | inr long ↦ (
          let short : length other ≤ 63 = is.short in
          let same : length other ≡ 63 = omega arith in
          elim (last_of_length 63 other same is.octets) [
            | inl each ↦ inl (each ∙ sym all)
            | inr less ↦ inr (same_length other label (same ∙ sym size) ∙ subst (λ (l : List ℕ). by_octets other l ≡ Less) (sym all) less)
          ])
    ]

-- behind a label of octets 255 comes the label of one letter more
pub grown_behind : (label next : List ℕ) (n : ℕ) → length label ≡ n → label ≡ replicate n 255 → next ≡ replicate (n + 1) 97 → IsLabel next → IsLabelBehind label next
grown_behind label next n size all letters is =
    let long : length next ≡ n + 1 = ap (λ (l : List ℕ). length l) letters ∙ length-replicate (n + 1) 97 in
    record {
      is_label = is;
      behind = shorter_first label next (omega arith);
      first = λ other other_is less. elim (cases_lt (length other) n) [
        | inl shorter ↦ inr (shorter_first other label (omega arith))
        | inr not_shorter ↦ elim (cases_lt n (length other)) [
          | inl longer ↦ elim (cases_lt (n + 1) (length other)) [
            | inl far ↦ absurd (not_longer other next (omega arith) less)
            | inr near ↦ (
                let same : length other ≡ n + 1 = omega arith in
                absurd (none_first (n + 1) other same
                (subst (λ (l : List ℕ). by_octets other l ≡ Less) letters (sym (same_length other next (same ∙ sym long)) ∙ less))))
          ]
          | inr not_longer ↦ (
              let same : length other ≡ n = omega arith in
              elim (last_of_length n other same other_is.octets) [
                | inl each ↦ inl (each ∙ sym all)
                | inr before ↦ inr (same_length other label (same ∙ sym size) ∙ subst (λ (l : List ℕ). by_octets other l ≡ Less) (sym all) before)
              ])
        ]
      ];
    }

-- behind a label with an octet below 255 comes the one in which the last such octet is raised and those behind it begin
-- anew
pub raised_is_behind : (label next front : List ℕ) (octet raised k : ℕ) → label ≡ front ++ octet ∷ replicate k 255 → next ≡ front ++ raised ∷ replicate k 97
    → IsOctetBehind octet raised → IsLabel next → IsLabelBehind label next
raised_is_behind label next front octet raised k is next_is up label_next =
    let size : length label ≡ length front + suc k =
    ap (λ (l : List ℕ). length l) is ∙ length-append front (octet ∷ replicate k 255) ∙ ap (λ (n : ℕ). length front + suc n) (length-replicate k 255) in
    let next_size : length next ≡ length front + suc k =
    ap (λ (l : List ℕ). length l) next_is ∙ length-append front (raised ∷ replicate k 97) ∙ ap (λ (n : ℕ). length front + suc n) (length-replicate k 97) in
    record {
      is_label = label_next;
      behind =
          same_length label next (size ∙ sym next_size)
          ∙ subst (λ (l : List ℕ). by_octets l next ≡ Less) (sym is)
          (subst (λ (l : List ℕ). by_octets (front ++ octet ∷ replicate k 255) l ≡ Less) (sym next_is) (raised_behind front octet raised k up));
      first = λ other other_is less. elim (cases_lt (length other) (length label)) [
        | inl shorter ↦ inr (shorter_first other label shorter)
        | inr not_shorter ↦ elim (cases_lt (length label) (length other)) [
          | inl longer ↦ absurd (not_longer other next (omega arith) less)
          | inr not_longer ↦ (
              let same : length other ≡ length front + suc k = omega arith in
              elim (none_between front octet raised k other up same other_is.octets
              (subst (λ (l : List ℕ). by_octets other l ≡ Less) next_is (sym (same_length other next (same ∙ sym next_size)) ∙ less))) [
                | inl all ↦ inl (all ∙ sym is)
                | inr before ↦ inr (same_length other label (same ∙ sym size) ∙ subst (λ (l : List ℕ). by_octets other l ≡ Less) (sym is) before)
              ])
        ]
      ];
    }

no_less : (n : ℕ) → n - 0 ≡ n
no_less n = omega arith

one_more : (n : ℕ) → suc n ≡ n + 1
one_more n = omega arith

-- the octets that are tried next are those of the label behind the label
pub next_is_behind : (label next : List ℕ) (place : ℕ) → IsLastBut label place → AreNextOctets label place next → IsLabel next → IsLabelBehind label next
next_is_behind label next zero last are is = grown_behind label next (length label) refl
    (last.last ∙ ap (λ (n : ℕ). replicate n 255) (no_less (length label))) are is
next_is_behind label next (suc place) last (raised, up, are) is =
    let k : ℕ = length label - suc place in
    let within : suc place ≤ length label = last.within in
    let front : take (suc place) label ≡ take place label ++ get_or label place 0 ∷ [] =
    ap (λ (n : ℕ). take n label) (one_more place) ∙ take_more label place 0 (omega arith) in
    raised_is_behind label next (take place label) (get_or label place 0) raised k
    (last.last ∙ ap (λ (l : List ℕ). l ++ replicate k 255) front ∙ append_assoc (take place label) (get_or label place 0 ∷ []) (replicate k 255)) are up is

-- ---- they are octets of a label

letters : (n : ℕ) → list_all is_label_octet (replicate n 97) ≡ true
letters zero = refl
letters (suc n) = letters n

front_octets : (n : ℕ) (label : List ℕ) → list_all is_label_octet label ≡ true → list_all is_label_octet (take n label) ≡ true
front_octets zero label each = refl
front_octets (suc n) [] each = refl
front_octets (suc n) (octet ∷ label) each =
    let parts = and_parts (is_label_octet octet) (list_all is_label_octet label) each in
    and_from (is_label_octet octet) (list_all is_label_octet (take n label)) parts.0 (front_octets n label parts.1)

-- the octets that are tried next are a label
pub next_is_label : (label next : List ℕ) (place : ℕ) → IsLabel label → (place ≡ 0 → length label ≡ 63 → ⊥) → place ≤ length label
    → AreNextOctets label place next → IsLabel next
next_is_label label next zero is room within are =
    let size : length next ≡ length label + 1 = ap (λ (l : List ℕ). length l) are ∙ length-replicate (length label + 1) 97 in
    let short : length label ≤ 63 = is.short in
    let fits : length label ≡ 63 → ⊥ = room refl in
    record {
      not_empty = omega arith;
      short = elim (cases_lt (length label) 63) [ inl below ↦ omega arith | inr full ↦ absurd (fits (omega arith)) ];
      octets = subst (λ (l : List ℕ). list_all is_label_octet l ≡ true) (sym are) (letters (length label + 1));
    }
next_is_label label next (suc place) is room within (raised, up, are) =
    let k : ℕ = length label - suc place in
    let size : length next ≡ length label =
    ap (λ (l : List ℕ). length l) are ∙ length-append (take place label) (raised ∷ replicate k 97)
    ∙ ap (λ (n : ℕ). n + suc (length {A = ℕ} (replicate k 97))) (length-take-le place label (omega arith)) ∙ ap (λ (n : ℕ). place + suc n) (length-replicate k 97) ∙ omega arith in
    let short : length label ≤ 63 = is.short in
    record {
      not_empty = omega arith;
      short = omega arith;
      octets =
          subst (λ (l : List ℕ). list_all is_label_octet l ≡ true) (sym are)
          (list_all-append is_label_octet (take place label) (raised ∷ replicate k 97)
          ∙ and_from _ _ (front_octets place label is.octets) (and_from _ _ up.is_octet (letters k)));
    }

-- no label is tried before the label a
pub none_before_a : (other : List ℕ) → IsLabel other → trial_cmp other (97 ∷ []) ≡ Less → ⊥
none_before_a other is less =
    elim (cases_lt 1 (length other)) [
      | inl longer ↦ not_longer other (97 ∷ []) longer less
      | inr short ↦ (
          let some : 0 < length other = is.not_empty in
          let one : length other ≡ 1 = omega arith in
          none_first 1 other one (sym (same_length other (97 ∷ []) one) ∙ less))
    ]

-- the label a is a label
pub a_is_label : IsLabel (97 ∷ [])
a_is_label = record { not_empty = omega arith; short = omega arith; octets = refl }
