-- The search for the first free label ends: each label that is taken is the last of a base name.
use Rattle.std.proofs.Common.{◌≡◌, ◌∙◌, ℕ, ◌-◌, ◌<◌, ◌≤◌, Bool, true, false, not, cond, List, [], ◌∷◌, ◌++◌, length, get_or, Contains, filter, is_lt, Ordering, Less, Equal, Greater, inl, inr, sym, refl, ap, subst, true≢false, arith}
use Rattle.std.proofs.lemmas.List.{get_or_at, length-append}
use Rattle.dns_data.specs.Name.{Labels}
use Rattle.dns_data.proofs.Membership.{none_in_nil, first_or_later}
use Rattle.dns_data.proofs.OrderedLists.{never_before_itself}
use Rattle.net_model.specs.Class.{trial_cmp}
use Rattle.net_model.proofs.TrialOrder.{trials_total}
use Rattle.query_classes.specs.Trials.{IsLabelBehind}

module _ {X : Type 0} (p q : X → Bool) (within : (x : X) → q x ≡ true → p x ≡ true) where
  -- no more items pass the narrower of two tests than the wider
  pub no_more : (xs : List X) → length (filter q xs) ≤ length (filter p xs)
  no_more [] = omega arith
  no_more (x ∷ xs) = by (q x) (p x) refl refl (no_more xs) where
    by : (b c : Bool) → q x ≡ b → p x ≡ c → length (filter q xs) ≤ length (filter p xs)
        → length (cond b (x ∷ filter q xs) (filter q xs)) ≤ length (cond c (x ∷ filter p xs) (filter p xs))
    by true true e f le = omega arith
    by true false e f le = absurd (true≢false (sym (within x e) ∙ f))
    by false true e f le = omega arith
    by false false e f le = le

  -- fewer items pass the narrower of two tests, if some item passes the wider one alone
  pub fewer : (xs : List X) (y : X) → Contains xs y → p y ≡ true → q y ≡ false → length (filter q xs) < length (filter p xs)
  fewer [] y has passes gone = absurd (none_in_nil y has)
  fewer (x ∷ xs) y has passes gone = by (q x) (p x) refl refl (no_more xs) (λ later. fewer xs y later passes gone) where
    by : (b c : Bool) → q x ≡ b → p x ≡ c → length (filter q xs) ≤ length (filter p xs) → (Contains xs y → length (filter q xs) < length (filter p xs))
        → length (cond b (x ∷ filter q xs) (filter q xs)) < length (cond c (x ∷ filter p xs) (filter p xs))
    by true true e f le rest =
        elim (first_or_later x xs y has) [
          | inl same ↦ absurd (true≢false (sym e ∙ ap q same ∙ gone))
          | inr later ↦ (let less = rest later in omega arith)
        ]
    by true false e f le rest = absurd (true≢false (sym (within x e) ∙ f))
    by false true e f le rest = omega arith
    by false false e f le rest =
        elim (first_or_later x xs y has) [
          | inl same ↦ absurd (true≢false (sym passes ∙ ap p (sym same) ∙ f))
          | inr later ↦ rest later
        ]

-- the last label of a name
abbrev pub last_of : Labels → List ℕ
last_of name = get_or name (length name - 1) []

-- the last label of a name with a label below it is that label
pub last_of_below : (above : Labels) (label : List ℕ) → last_of (above ++ label ∷ []) ≡ label
last_of_below above label = get_or_at above label [] [] (length (above ++ label ∷ []) - 1) (sym (place above label)) where
  place : (above : Labels) (label : List ℕ) → length (above ++ label ∷ []) - 1 ≡ length above
  place above label = omega (arith, length-append above (label ∷ []))

-- the name's last label isn't tried before this one
abbrev pub is_not_before : List ℕ → Labels → Bool
is_not_before label name = not (is_lt (trial_cmp (last_of name) label))

-- how many of the names have a last label that isn't tried before this one
abbrev pub left : List Labels → List ℕ → ℕ
left names label = length (filter (is_not_before label) names)

-- behind a label that is taken fewer names are left
pub fewer_left : (names : List Labels) (above : Labels) (label next : List ℕ) → Contains names (above ++ label ∷ []) → IsLabelBehind label next
    → left names next < left names label
fewer_left names above label next has behind =
    fewer (is_not_before label) (is_not_before next) within names (above ++ label ∷ []) has here gone
  where
    own : last_of (above ++ label ∷ []) ≡ label
    own = last_of_below above label

    within : (name : Labels) → is_not_before next name ≡ true → is_not_before label name ≡ true
    within name later = by (trial_cmp (last_of name) label) refl where
      by : (o : Ordering) → trial_cmp (last_of name) label ≡ o → not (is_lt o) ≡ true
      by Less e =
          absurd (true≢false (sym later ∙ ap (λ (o : Ordering). not (is_lt o)) (trials_total.trans (last_of name) label next e behind.behind)))
      by Equal e = refl
      by Greater e = refl

    here : is_not_before label (above ++ label ∷ []) ≡ true
    here = by (trial_cmp (last_of (above ++ label ∷ [])) label) refl where
      by : (o : Ordering) → trial_cmp (last_of (above ++ label ∷ [])) label ≡ o → not (is_lt o) ≡ true
      by Less e = absurd (never_before_itself trial_cmp trials_total label (subst (λ (l : List ℕ). trial_cmp l label ≡ Less) own e))
      by Equal e = refl
      by Greater e = refl

    gone : is_not_before next (above ++ label ∷ []) ≡ false
    gone = ap (λ (o : Ordering). not (is_lt o)) (subst (λ (l : List ℕ). trial_cmp l next ≡ Less) (sym own) behind.behind)
