-- What a search of a list by a test finds, and what a filter leaves; tests that agree on its items.
use Rattle.std.proofs.Common.{◌≡◌, Bool, true, false, cond, List, [], ◌∷◌, Contains, filter, Option, Some, None, sym, refl, ap, subst, ◌∙◌, inl, inr, true≢false}
use Rattle.std.specs.List.{find, list_any, list_all, filter_map, cons_option}
use Rattle.std.proofs.lemmas.Bool.{and_parts, or_cases, or_from, or_left, or_right, or_parts}
use Rattle.dns_data.proofs.Membership.{none_in_nil, has_first, has_later, first_or_later}

module _ {A : Type 0} (test : A → Bool) where
  -- what passes on every item passes on each
  pub each_of_all : (xs : List A) → list_all test xs ≡ true → (x : A) → Contains xs x → test x ≡ true
  each_of_all [] all x has = absurd (none_in_nil x has)
  each_of_all (first ∷ xs) all x has =
      let parts = and_parts (test first) (list_all test xs) all in
      elim (first_or_later first xs x has) [
        | inl same ↦ ap test (sym same) ∙ parts.0
        | inr later ↦ each_of_all xs parts.1 x later
      ]

  -- if some item of a list passes a test, the list has an item that passes
  pub from_any : (xs : List A) → list_any test xs ≡ true → (x : A) × Contains xs x × (test x ≡ true)
  from_any [] some = absurd (true≢false (sym some))
  from_any (first ∷ xs) some =
      elim (or_cases (test first) (list_any test xs) some) [
        | inl here ↦ (first, has_first first xs, here)
        | inr later ↦ (let rest = from_any xs later in (rest.0, has_later first xs rest.0 rest.1, rest.2))
      ]

  -- a list that has an item that passes a test passes it for some item
  pub any_has : (xs : List A) (x : A) → Contains xs x → test x ≡ true → list_any test xs ≡ true
  any_has [] x has pass = absurd (none_in_nil x has)
  any_has (first ∷ xs) x has pass =
      elim (first_or_later first xs x has) [
        | inl same ↦ or_left (test first) (list_any test xs) (ap test same ∙ pass)
        | inr later ↦ or_right (test first) (list_any test xs) (any_has xs x later pass)
      ]

  -- if each item of a list fails a test, the list passes it for none
  pub any_none : (xs : List A) → ((x : A) → Contains xs x → test x ≡ false) → list_any test xs ≡ false
  any_none [] fails = refl
  any_none (first ∷ xs) fails =
      or_from (test first) (list_any test xs) (fails first (has_first first xs))
      (any_none xs (λ x has. fails x (has_later first xs x has)))

  -- if no item of a list passes a test, a filter by it leaves nothing
  pub filter_none : (xs : List A) → list_any test xs ≡ false → filter test xs ≡ []
  filter_none [] none = refl
  filter_none (first ∷ xs) none =
      let parts = or_parts (test first) (list_any test xs) none in rw (parts.0) (filter_none xs parts.1)

  -- if each item of a list fails a test, a search by it finds nothing
  pub find_none : (xs : List A) → ((x : A) → Contains xs x → test x ≡ false) → find test xs ≡ None
  find_none [] fails = refl
  find_none (first ∷ xs) fails =
      rw (fails first (has_first first xs)) (find_none xs (λ x has. fails x (has_later first xs x has)))

  -- if an item of a list passes a test, a search by it finds one that does
  pub find_some : (xs : List A) (x : A) → Contains xs x → test x ≡ true → (y : A) × (find test xs ≡ Some y) × (test y ≡ true)
  find_some [] x has pass = absurd (none_in_nil x has)
  find_some (first ∷ xs) x has pass = by (test first) refl (find_some xs x) where
    by : (b : Bool) → test first ≡ b → (Contains xs x → test x ≡ true → (y : A) × (find test xs ≡ Some y) × (test y ≡ true))
        → (y : A) × (cond b (Some first) (find test xs) ≡ Some y) × (test y ≡ true)
    by true e rest = (first, refl, e)
    by false e rest =
        elim (first_or_later first xs x has) [
          | inl same ↦ absurd (true≢false (sym pass ∙ ap test (sym same) ∙ e))
          | inr later ↦ rest later pass
        ]

  -- what a search finds is an item of the list that passes the test
  pub found_there : (xs : List A) (x : A) → find test xs ≡ Some x → Contains xs x × (test x ≡ true)
  found_there [] x e = cc
  found_there (first ∷ xs) x e = by (test first) refl e (found_there xs x) where
    by : (b : Bool) → test first ≡ b → cond b (Some first) (find test xs) ≡ Some x → (find test xs ≡ Some x → Contains xs x × (test x ≡ true))
        → Contains (first ∷ xs) x × (test x ≡ true)
    by true passes is rest =
        let same : first ≡ x = cc in
        (subst (Contains (first ∷ xs)) same (has_first first xs), ap test (sym same) ∙ passes)
    by false fails is rest = let later = rest is in (has_later first xs x later.0, later.1)

-- two truth values of which each implies the other are equal
pub same_truth : (a b : Bool) → (a ≡ true → b ≡ true) → (b ≡ true → a ≡ true) → a ≡ b
same_truth true b there back = sym (there refl)
same_truth false true there back = back refl
same_truth false false there back = refl

module _ {A : Type 0} (one other : A → Bool) where
  -- two tests that agree on the items of a list find the same item
  pub find_same : (xs : List A) → ((x : A) → Contains xs x → one x ≡ other x) → find one xs ≡ find other xs
  find_same [] agree = refl
  find_same (first ∷ xs) agree =
      ap (λ (b : Bool). cond b (Some first) (find one xs)) (agree first (has_first first xs))
      ∙ ap (λ (found : Option A). cond (other first) (Some first) found)
      (find_same xs (λ x has. agree x (has_later first xs x has)))

  -- filters by two tests that agree on the items of a list leave the same items
  pub filter_same : (xs : List A) → ((x : A) → Contains xs x → one x ≡ other x) → filter one xs ≡ filter other xs
  filter_same [] agree = refl
  filter_same (first ∷ xs) agree =
      ap (λ (b : Bool). cond b (first ∷ filter one xs) (filter one xs)) (agree first (has_first first xs))
      ∙ ap (λ (rest : List A). cond (other first) (first ∷ rest) rest)
      (filter_same xs (λ x has. agree x (has_later first xs x has)))

module _ {A B : Type 0} (f : A → Option B) where
  -- what an item gives is among what all items give
  pub filter_map_has : (xs : List A) (x : A) (y : B) → Contains xs x → f x ≡ Some y → Contains (filter_map f xs) y
  filter_map_has [] x y has gives = absurd (none_in_nil x has)
  filter_map_has (first ∷ xs) x y has gives =
      elim (first_or_later first xs x has) [
        | inl same ↦ rw (ap f same ∙ gives) (has_first y (filter_map f xs))
        | inr later ↦ behind (f first) (filter_map_has xs x y later gives)
      ]
    where
      behind : (given : Option B) → Contains (filter_map f xs) y → Contains (cons_option given (filter_map f xs)) y
      behind None rest = rest
      behind (Some other) rest = has_later other (filter_map f xs) y rest

  -- what all items give together is given by some item
  pub from_filter_map : (xs : List A) (y : B) → Contains (filter_map f xs) y → (x : A) × Contains xs x × (f x ≡ Some y)
  from_filter_map [] y has = absurd (none_in_nil y has)
  from_filter_map (first ∷ xs) y has = by (f first) refl has (from_filter_map xs y) where
    behind : (x : A) × Contains xs x × (f x ≡ Some y) → (x : A) × Contains (first ∷ xs) x × (f x ≡ Some y)
    behind (x, has, gives) = (x, has_later first xs x has, gives)

    by : (given : Option B) → f first ≡ given → Contains (cons_option given (filter_map f xs)) y
        → (Contains (filter_map f xs) y → (x : A) × Contains xs x × (f x ≡ Some y)) → (x : A) × Contains (first ∷ xs) x × (f x ≡ Some y)
    by None e has rest = behind (rest has)
    by (Some other) e has rest =
        elim (first_or_later other (filter_map f xs) y has) [
          | inl same ↦ (first, has_first first xs, e ∙ ap (λ (z : B). Some z) same)
          | inr later ↦ behind (rest later)
        ]
