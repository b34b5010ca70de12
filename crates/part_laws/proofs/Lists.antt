-- Searches, tests and filters of a list that was filtered before, or mapped.
use Rattle.std.proofs.Common.{◌≡◌, Bool, true, false, cond, List, [], ◌∷◌, map, Contains, filter, Some, sym, refl, ap, ◌∙◌, true≢false}
use Rattle.std.specs.Prelude.{option_map, ◌||◌}
use Rattle.std.specs.List.{find, list_any}
use Rattle.dns_data.proofs.Membership.{has_first, has_later}

module _ {A B : Type 0} (f : A → B) where
  -- a search of a mapped list finds the image of what the search by images finds
  pub find_mapped : (test : B → Bool) (xs : List A) → find test (map f xs) ≡ option_map f (find (λ x. test (f x)) xs)
  find_mapped test [] = refl
  find_mapped test (x ∷ xs) = by (test (f x)) (find_mapped test xs) where
    by : (b : Bool) → find test (map f xs) ≡ option_map f (find (λ x. test (f x)) xs)
        → cond b (Some (f x)) (find test (map f xs)) ≡ option_map f (cond b (Some x) (find (λ x. test (f x)) xs))
    by true rest = refl
    by false rest = rest

  -- maps that agree on the items of a list give one list
  pub map_same : (g : A → B) (xs : List A) → ((x : A) → Contains xs x → f x ≡ g x) → map f xs ≡ map g xs
  map_same g [] agree = refl
  map_same g (x ∷ xs) agree =
      ap (λ y. y ∷ map f xs) (agree x (has_first x xs)) ∙ ap (λ ys. g x ∷ ys) (map_same g xs (λ y has. agree y (has_later x xs y has)))

module _ {A : Type 0} (test leaves : A → Bool) where
  -- each item that passes the first test passes the second
  abbrev LeavesAll : List A → Type 0
  LeavesAll xs = (x : A) → Contains xs x → test x ≡ true → leaves x ≡ true

  rest_left : (first : A) (xs : List A) → LeavesAll (first ∷ xs) → LeavesAll xs
  rest_left first xs all = λ x has pass. all x (has_later first xs x has) pass

  -- a filter that leaves all that a search may find doesn't change what it finds
  pub find_filtered : (xs : List A) → ((x : A) → Contains xs x → test x ≡ true → leaves x ≡ true) → find test (filter leaves xs) ≡ find test xs
  find_filtered [] all = refl
  find_filtered (x ∷ xs) all = by (leaves x) (test x) refl refl (find_filtered xs (rest_left x xs all)) where
    by : (k b : Bool) → leaves x ≡ k → test x ≡ b → find test (filter leaves xs) ≡ find test xs
        → find test (cond k (x ∷ filter leaves xs) (filter leaves xs)) ≡ cond b (Some x) (find test xs)
    by true b is_left is rest = ap (λ (c : Bool). cond c (Some x) (find test (filter leaves xs))) is ∙ ap (cond b (Some x)) rest
    by false true is_left is rest = absurd (true≢false (sym (all x (has_first x xs) is) ∙ is_left))
    by false false is_left is rest = rest

  -- nor what a filter by that test leaves
  pub filter_filtered : (xs : List A) → ((x : A) → Contains xs x → test x ≡ true → leaves x ≡ true) → filter test (filter leaves xs) ≡ filter test xs
  filter_filtered [] all = refl
  filter_filtered (x ∷ xs) all = by (leaves x) (test x) refl refl (filter_filtered xs (rest_left x xs all)) where
    by : (k b : Bool) → leaves x ≡ k → test x ≡ b → filter test (filter leaves xs) ≡ filter test xs
        → filter test (cond k (x ∷ filter leaves xs) (filter leaves xs)) ≡ cond b (x ∷ filter test xs) (filter test xs)
    by true b is_left is rest =
        ap (λ (c : Bool). cond c (x ∷ filter test (filter leaves xs)) (filter test (filter leaves xs))) is
        ∙ ap (λ (ys : List A). cond b (x ∷ ys) ys) rest
    by false true is_left is rest = absurd (true≢false (sym (all x (has_first x xs) is) ∙ is_left))
    by false false is_left is rest = rest

  -- nor whether some item passes it
  pub any_filtered : (xs : List A) → ((x : A) → Contains xs x → test x ≡ true → leaves x ≡ true) → list_any test (filter leaves xs) ≡ list_any test xs
  any_filtered [] all = refl
  any_filtered (x ∷ xs) all = by (leaves x) (test x) refl refl (any_filtered xs (rest_left x xs all)) where
    by : (k b : Bool) → leaves x ≡ k → test x ≡ b → list_any test (filter leaves xs) ≡ list_any test xs
        → list_any test (cond k (x ∷ filter leaves xs) (filter leaves xs)) ≡ (b || list_any test xs)
    by true b is_left is rest = ap (λ (c : Bool). c || list_any test (filter leaves xs)) is ∙ ap (λ (c : Bool). b || c) rest
    by false true is_left is rest = absurd (true≢false (sym (all x (has_first x xs) is) ∙ is_left))
    by false false is_left is rest = rest
