-- How names stand in their order: prefixes, names between others, and lists in which each name stands before the later
-- ones.
use Rattle.std.proofs.Common.{◌≡◌, ℕ, zero, suc, ◌<◌, Bool, true, false, cond, List, [], ◌∷◌, ◌++◌, map, length, get_or, Contains, AllPairs, filter, Ordering, Less, Equal, Greater, is_lt, is_gt, is_eq, sym, refl, ap, ◌∙◌, subst, inl, inr, true≢false, arith}
use Rattle.std.specs.Cmp.{IsTotalOrder}
use Rattle.std.specs.Cmp.Lexicographic.{nat_list_cmp_total, lists_total, texts_ties, bytes_decides}
use Rattle.std.specs.List.Sorted.{IsStrictlySortedBy}
use Rattle.std.specs.Ordering.{ordering_then, ordering_reverse}
use Rattle.std.proofs.lemmas.Cmp.{tied_itself}
use Rattle.std.proofs.lemmas.List.Elements.{Contains-append_cases}
use Rattle.std.proofs.lemmas.List.Kept.{AllPairs-cons}
use Rattle.std.proofs.lemmas.Map.Keys.{sorted_tail}
use Rattle.std.proofs.lemmas.Map.Views.{All-after_first}
use Rattle.dns_data.specs.Label.{label_cmp}
use Rattle.dns_data.specs.Name.{Labels, is_prefix, name_cmp, name_eq}
use Rattle.dns_data.proofs.Membership.{none_in_nil, has_first, has_later, from_map, from_filter, all_from_contains}
use Rattle.dns_data.proofs.NameFronts.{Begins, is_prefix_tells, is_prefix_told}
use Rattle.dns_data.proofs.Names.{name_eq_decides, same_names}
use Rattle.dns_data.proofs.OrderedLists.{never_before_itself}

-- the first name doesn't stand behind the second
abbrev pub UpTo : Labels → Labels → Type 0
UpTo a b = is_gt (name_cmp a b) ≡ false

-- the first name stands before the second
abbrev pub Before : Labels → Labels → Type 0
Before a b = name_cmp a b ≡ Less

-- the order of names is total
pub names_total : IsTotalOrder name_cmp
names_total = lists_total nat_list_cmp_total

-- what stands before turned round stands behind
pub turned : (o : Ordering) → is_lt o ≡ is_gt (ordering_reverse o)
turned Less = refl
turned Equal = refl
turned Greater = refl

-- labels of which neither stands before the other are equal
pub same_labels : (a b : List ℕ) → label_cmp a b ≡ Equal → a ≡ b
same_labels a b e = (bytes_decides a b).0 (texts_ties a b ∙ ap is_eq e)

-- a label before two names doesn't change how they stand
pub under_label : (label : List ℕ) (a b : Labels) → name_cmp (label ∷ a) (label ∷ b) ≡ name_cmp a b
under_label label a b = ap (λ o. ordering_then o (name_cmp a b)) (tied_itself nat_list_cmp_total label)

-- a name doesn't stand behind one that it begins
pub prefix_up_to : (above below : Labels) → UpTo above (above ++ below)
prefix_up_to [] [] = refl
prefix_up_to [] (label ∷ below) = refl
prefix_up_to (label ∷ above) below = ap is_gt (under_label label above (above ++ below)) ∙ prefix_up_to above below

-- a name that doesn't stand behind a second stands before each name that the second stands before
pub up_to_before : (a b c : Labels) → UpTo a b → Before b c → Before a c
up_to_before a b c le lt = by (name_cmp a b) refl le where
  by : (o : Ordering) → name_cmp a b ≡ o → is_gt o ≡ false → Before a c
  by Less e h = names_total.trans a b c e lt
  by Equal e h = names_total.congr a b c e ∙ lt
  by Greater e h = absurd (true≢false h)

-- a name that stands before a second stands before each name that the second doesn't stand behind
pub before_up_to : (a b c : Labels) → Before a b → UpTo b c → Before a c
before_up_to a b c less le = by (name_cmp b c) refl le where
  by : (o : Ordering) → name_cmp b c ≡ o → is_gt o ≡ false → Before a c
  by Less e h = names_total.trans a b c less e
  by Equal e h = subst (Before a) (same_names b c e) less
  by Greater e h = absurd (true≢false h)

-- a name that stands before another differs from it
pub before_differs : (a b : Labels) → Before a b → name_eq a b ≡ false
before_differs a b less = by (name_eq a b) refl where
  by : (same : Bool) → name_eq a b ≡ same → same ≡ false
  by false e = refl
  by true e = absurd (never_before_itself name_cmp names_total b (subst (λ (x : Labels). Before x b) ((name_eq_decides a b).0 e) less))

-- a name that stands behind another differs from it
pub behind_differs : (a b : Labels) → Before b a → name_eq a b ≡ false
behind_differs a b less = by (name_eq a b) refl where
  by : (same : Bool) → name_eq a b ≡ same → same ≡ false
  by false e = refl
  by true e = absurd (never_before_itself name_cmp names_total b (subst (λ (x : Labels). Before b x) ((name_eq_decides a b).0 e) less))

-- a prefix of a name that is no prefix of an earlier one stands behind that one
pub new_prefix_after : (a above below : Labels) → UpTo a (above ++ below) → (Begins above a → ⊥) → Before a above
new_prefix_after [] [] below le new = absurd (new ([], refl))
new_prefix_after [] (label ∷ above) below le new = refl
new_prefix_after (other ∷ a) [] below le new = absurd (new (other ∷ a, refl))
new_prefix_after (other ∷ a) (label ∷ above) below le new =
    by (label_cmp other label) refl le (new_prefix_after a above below)
  where
    by : (o : Ordering) → label_cmp other label ≡ o → is_gt (ordering_then o (name_cmp a (above ++ below))) ≡ false
        → (UpTo a (above ++ below) → (Begins above a → ⊥) → Before a above) → ordering_then o (name_cmp a above) ≡ Less
    by Less e h rest = refl
    by Equal e h rest =
        rest h (λ (below', same). new (below', ap (λ (xs : Labels). label ∷ xs) same ∙ ap (λ (x : List ℕ). x ∷ a) (sym (same_labels other label e))))
    by Greater e h rest = absurd (true≢false h)

-- what stands between a name and one below it has the name's labels first
pub between : (above name below : Labels) → UpTo above name → UpTo name (above ++ below) → Begins above name
between above name below low high = by (is_prefix above name) refl where
  by : (b : Bool) → is_prefix above name ≡ b → Begins above name
  by true e = is_prefix_tells above name e
  by false e =
      absurd (never_before_itself name_cmp names_total above (up_to_before above name above low
      (new_prefix_after name above below high (λ begins. true≢false (sym (is_prefix_told above name begins) ∙ e)))))

-- each name of a strictly sorted list stands before the later ones
pub before_later : (names : List Labels) → IsStrictlySortedBy name_cmp names → (i j : ℕ) (d : Labels) → i < j → j < length names
    → Before (get_or names i d) (get_or names j d)
before_later [] sorted i j d lower within = absurd (omega arith)
before_later (name ∷ names) sorted i zero d lower within = absurd (omega arith)
before_later (name ∷ names) sorted zero (suc j) d lower within = All-after_first name_cmp name names sorted j d (omega arith)
before_later (name ∷ names) sorted (suc i) (suc j) d lower within = before_later names (sorted_tail name_cmp name names sorted) i j d (omega arith) (omega arith)

-- each name of a list stands before the later ones, by recursion along the list
abbrev pub Rising : List Labels → Type 0
Rising [] = Unit {0}
Rising (name ∷ names) = ((later : Labels) → Contains names later → Before name later) × Rising names

-- of each two names of a rising list the first stands before the second
pub pairs_from_rising : (names : List Labels) → Rising names → AllPairs Before names
pairs_from_rising [] h = λ i j d lt below. absurd (none_in_nil d (j, below, refl))
pairs_from_rising (name ∷ names) h =
    AllPairs-cons Before name names (all_from_contains (Before name) names h.0) (pairs_from_rising names h.1)

-- two rising lists of names in a row rise, if each name of the first stands before those of the second
pub rising_append : (xs ys : List Labels) → Rising xs → Rising ys
    → ((x y : Labels) → Contains xs x → Contains ys y → Before x y) → Rising (xs ++ ys)
rising_append [] ys h k across = k
rising_append (x ∷ xs) ys h k across = (
  λ later has. elim (Contains-append_cases xs ys later has) [
    | inl here ↦ h.0 later here
    | inr there ↦ across x later (has_first x xs) there
  ],
  rising_append xs ys h.1 k (λ a b has there. across a b (has_later x xs a has) there),
)

-- a rising list of names rises with the same label before each name
pub rising_map : (label : List ℕ) (names : List Labels) → Rising names → Rising (map (λ above. label ∷ above) names)
rising_map label [] h = tt
rising_map label (name ∷ names) h = (
  λ later has. let found = from_map (λ (above : Labels). label ∷ above) names later has in
      subst (Before (label ∷ name)) found.2 (under_label label name found.0 ∙ h.0 found.0 found.1),
  rising_map label names h.1,
)

-- what a filter leaves of a rising list of names rises
pub rising_filter : (test : Labels → Bool) (names : List Labels) → Rising names → Rising (filter test names)
rising_filter test [] h = tt
rising_filter test (name ∷ names) h = by (test name) (rising_filter test names h.1) where
  by : (b : Bool) → Rising (filter test names) → Rising (cond b (name ∷ filter test names) (filter test names))
  by true rest = (λ later has. h.0 later (from_filter test names later has).0, rest)
  by false rest = rest
