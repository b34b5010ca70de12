-- Below a name with a free label there is a label that is tried first among the free ones.
use Rattle.std.proofs.Common.{◌≡◌, ℕ, zero, suc, ◌<◌, ◌≤◌, Bool, true, false, cond, not, ◌&&◌, ◌⊎◌, List, [], ◌∷◌, ◌++◌, map, flat_map, length, Contains, nat_eq, nat_lt, Ordering, Less, Equal, Greater, nat_cmp, sym, refl, ap, ◌∙◌, inl, inr, true≢false, arith, le_refl, le_trans, lt-ltb, ltb-true}
use Rattle.std.specs.List.{list_any, list_all, AllByRecursion}
use Rattle.std.specs.Cmp.Lexicographic.{slice_cmp}
use Rattle.std.specs.Ordering.{ordering_then}
use Rattle.std.proofs.lemmas.Bool.{and_parts, and_from, not-true, le-ltb, ne_eqb, cases_lt}
use Rattle.dns_data.specs.Label.{IsLabel, is_label_octet}
use Rattle.dns_data.specs.Name.{Labels, name_eq}
use Rattle.dns_data.proofs.Names.{is_label, is_label_tells, is_label_told}
use Rattle.dns_data.proofs.LeastItems.{IsLeastItem, least_or_none}
use Rattle.dns_data.proofs.Membership.{has_first, has_later, map_has, flat_map_has}
use Rattle.dns_data.proofs.NumbersBelow.{numbers_below, numbers_below_have}
use Rattle.net_model.specs.Class.{octet_rank, trial_cmp, IsFirstUnnamed}
use Rattle.net_model.specs.Reading.{Ground, IsNamed}
use Rattle.net_model.proofs.Naming.{is_listed, from_listed, named_among, among_named}
use Rattle.net_model.proofs.TrialOrder.{trials_total}

-- each label of a name whose labels are right is right
pub label_of_name : (above : Labels) (label : List ℕ) (rest : Labels) → AllByRecursion IsLabel (above ++ label ∷ rest) → IsLabel label
label_of_name [] label rest each = each.0
label_of_name (x ∷ above) label rest each = label_of_name above label rest each.1

-- the comparison of a number with a greater one answers that it is less
pub nat_cmp_less : (m n : ℕ) → m < n → nat_cmp m n ≡ Less
nat_cmp_less m n h = ap (λ b. cond b Less (cond (nat_eq m n) Equal Greater)) (lt-ltb m n h)

-- and to a lesser one
nat_cmp_greater : (m n : ℕ) → n < m → nat_cmp m n ≡ Greater
nat_cmp_greater m n h =
    ap (λ b. cond b Less (cond (nat_eq m n) Equal Greater)) (le-ltb m n (omega arith))
    ∙ ap (λ b. cond b Equal Greater) (ne_eqb m n (λ e. omega arith))

-- the rest of the comparison of labels of one length
abbrev pub by_octets : List ℕ → List ℕ → Ordering
by_octets a b = slice_cmp (λ x y. nat_cmp (octet_rank x) (octet_rank y)) a b

-- a shorter label is tried first
pub shorter_first : (a b : List ℕ) → length a < length b → trial_cmp a b ≡ Less
shorter_first a b shorter = ap (λ o. ordering_then o (by_octets a b)) (nat_cmp_less (length a) (length b) shorter)

-- a label that is tried before another isn't longer
pub first_not_longer : (a b : List ℕ) → trial_cmp a b ≡ Less → length a ≤ length b
first_not_longer a b e =
    elim (cases_lt (length b) (length a)) [
      | inl longer ↦ (
          let greater : trial_cmp a b ≡ Greater = ap (λ o. ordering_then o (by_octets a b)) (nat_cmp_greater (length a) (length b) longer) in
          cc)
      | inr fits ↦ fits
    ]

-- ---- lists of octets

-- all lists of at most so many numbers below a number
pub words : (bound most : ℕ) → List (List ℕ)
words bound zero = [] ∷ []
words bound (suc most) = [] ∷ flat_map (λ n. map (λ word. n ∷ word) (words bound most)) (numbers_below bound)

-- they are among these
words_have : (bound most : ℕ) (word : List ℕ) → length word ≤ most → list_all (λ n. nat_lt n bound) word ≡ true → Contains (words bound most) word
unfolding words
words_have bound zero [] short each = has_first [] []
words_have bound zero (n ∷ word) short each = absurd (omega arith)
words_have bound (suc most) [] short each = has_first [] _
words_have bound (suc most) (n ∷ word) short each =
    let parts = and_parts (nat_lt n bound) (list_all (λ k. nat_lt k bound) word) each in
    let shorter : length word ≤ most = omega arith in
    has_later [] _ (n ∷ word)
    (flat_map_has (λ (k : ℕ). map (λ (rest : List ℕ). k ∷ rest) (words bound most)) (numbers_below bound) n (n ∷ word)
    (numbers_below_have bound n (ltb-true n bound parts.0))
    (map_has (λ (rest : List ℕ). n ∷ rest) (words bound most) word (words_have bound most word shorter parts.1)))

-- a label is a list of octets
octets_of_label : (label : List ℕ) → list_all is_label_octet label ≡ true → list_all (λ n. nat_lt n 256) label ≡ true
octets_of_label [] e = refl
octets_of_label (octet ∷ label) e =
    let parts = and_parts (is_label_octet octet) (list_all is_label_octet label) e in
    and_from _ _ (and_parts _ _ parts.0).0 (octets_of_label label parts.1)

-- the test of a label that makes a name which isn't among these
abbrev is_free : List Labels → Labels → List ℕ → Bool
is_free names above label = is_label label && not (list_any (name_eq (above ++ label ∷ [])) names)

-- a label that makes a name which isn't among these passes
free_label_is : (names : List Labels) (above : Labels) (label : List ℕ) → IsLabel label → list_any (name_eq (above ++ label ∷ [])) names ≡ false
    → is_free names above label ≡ true
free_label_is names above label is none =
    and_from (is_label label) (not (list_any (name_eq (above ++ label ∷ [])) names)) (is_label_told label is) (ap not none)

-- a name that isn't among these isn't listed
not_found : (names : List Labels) (name : Labels) → (Contains names name → ⊥) → list_any (name_eq name) names ≡ false
not_found names name out = by (list_any (name_eq name) names) refl where
  by : (b : Bool) → list_any (name_eq name) names ≡ b → b ≡ false
  by true e = absurd (out (from_listed names name e))
  by false e = refl

-- a label of at most so many octets is among the words of at most so many octets
pub label_among : (most : ℕ) (label : List ℕ) → IsLabel label → length label ≤ most → Contains (words 256 most) label
label_among most label is fits = words_have 256 most label fits (octets_of_label label is.octets)

-- the least free label of the candidates is the first of all
module _ (ground : Ground) (none : ground.redirections ≡ []) (above : Labels) (most : ℕ) (least : List ℕ)
    (is_least : IsLeastItem trial_cmp (is_free ground.names above) (words 256 most) least) (short : length least ≤ most) where
  least_parts : (is_label least ≡ true) × (not (list_any (name_eq (above ++ least ∷ [])) ground.names) ≡ true)
  least_parts = and_parts (is_label least) (not (list_any (name_eq (above ++ least ∷ [])) ground.names)) is_least.passes

  earlier_named : (other : List ℕ) → IsLabel other → trial_cmp other least ≡ Less → IsNamed ground (above ++ other ∷ [])
  earlier_named other is less = by (list_any (name_eq (above ++ other ∷ [])) ground.names) refl where
    by : (b : Bool) → list_any (name_eq (above ++ other ∷ [])) ground.names ≡ b → IsNamed ground (above ++ other ∷ [])
    by true e = among_named ground (above ++ other ∷ []) (from_listed ground.names (above ++ other ∷ []) e)
    by false e =
        let fits : length other ≤ length least = first_not_longer other least less in
        absurd (is_least.none_before other (label_among most other is (le_trans fits short)) (free_label_is ground.names above other is e) less)

  first_of_all : IsFirstUnnamed ground above least
  first_of_all =
      record {
        is_label = is_label_tells least least_parts.0;
        unnamed = λ named. true≢false
            (sym (is_listed ground.names (above ++ least ∷ []) (named_among ground none (above ++ least ∷ []) named))
            ∙ not-true (list_any (name_eq (above ++ least ∷ [])) ground.names) least_parts.1);
        first = earlier_named;
      }

-- below a name with a free label there is a first one, and it isn't longer
pub first_unnamed : (ground : Ground) → ground.redirections ≡ [] → (above : Labels) (label : List ℕ) → IsLabel label
    → (Contains ground.names (above ++ label ∷ []) → ⊥) → (first : List ℕ) × IsFirstUnnamed ground above first × (length first ≤ length label)
first_unnamed ground none above label is unnamed =
    by (least_or_none trial_cmp trials_total (is_free ground.names above) (words 256 (length label)))
  where
    candidate : Contains (words 256 (length label)) label
    candidate = label_among (length label) label is (le_refl (length label))

    passes : is_free ground.names above label ≡ true
    passes = free_label_is ground.names above label is (not_found ground.names (above ++ label ∷ []) unnamed)

    by : ((x : List ℕ) → Contains (words 256 (length label)) x → is_free ground.names above x ≡ false)
        ⊎ ((least : List ℕ) × IsLeastItem trial_cmp (is_free ground.names above) (words 256 (length label)) least)
        → (first : List ℕ) × IsFirstUnnamed ground above first × (length first ≤ length label)
    by (inl nothing) = absurd (true≢false (sym passes ∙ nothing label candidate))
    by (inr (least, is_least)) =
        elim (cases_lt (length label) (length least)) [
          | inl shorter ↦ absurd (is_least.none_before label candidate passes (shorter_first label least shorter))
          | inr fits ↦ (least, first_of_all ground none above (length label) least is_least fits, fits)
        ]
