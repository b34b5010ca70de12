-- Which items a list has, also after a map, a filter or several lists in a row; and what holds of each pair of them.
use Rattle.std.proofs.Common.{◌≡◌, ℕ, suc, ◌<◌, Bool, zero, true, false, cond, ◌⊎◌, List, [], ◌∷◌, ◌++◌, map, length, get_or, Contains, All, AllPairs, filter, flat_map, slice_get, Some, sym, refl, ap, ◌∙◌, subst, inl, inr, arith, true≢false}
use Rattle.std.specs.List.{AllByRecursion}
use Rattle.std.proofs.lemmas.List.{length-map, get_or-map}
use Rattle.std.proofs.lemmas.Option.{get_or_from_slice_get, slice_get-get_or, slice_get_within}
use Rattle.std.proofs.lemmas.List.Elements.{Contains-append_left, Contains-append_right, Contains-append_cases, Contains-get_or, All-contains, All-from_recursion}

module _ {X : Type 0} where
  -- no item is in the empty list
  pub none_in_nil : (x : X) → Contains [] x → ⊥
  none_in_nil x (k, below, is) = omega arith

  -- a list has its first item
  pub has_first : (x : X) (xs : List X) → Contains (x ∷ xs) x
  has_first x xs = (0, omega arith, refl)

  -- a list has each item behind its first one
  pub has_later : (y : X) (xs : List X) (x : X) → Contains xs x → Contains (y ∷ xs) x
  has_later y xs x has = Contains-append_right (y ∷ []) xs x has

  -- an item of a list is the first or one behind it
  pub first_or_later : (y : X) (xs : List X) (x : X) → Contains (y ∷ xs) x → (y ≡ x) ⊎ Contains xs x
  first_or_later y xs x (k, below, is) = by k below is where
    by : (k : ℕ) → k < length (y ∷ xs) → get_or (y ∷ xs) k x ≡ x → (y ≡ x) ⊎ Contains xs x
    by zero below is = inl is
    by (suc k) below is = inr (k, omega arith, is)

  -- an item at a place of a list is one of its items
  pub item_there : (xs : List X) (k : ℕ) (x : X) → slice_get xs k ≡ Some x → Contains xs x
  item_there xs k x is = (k, slice_get_within xs k x is, get_or_from_slice_get xs k x x is)

  -- an item of a list stands at a place of it
  pub place_of_item : (xs : List X) (x : X) → Contains xs x → (k : ℕ) × (slice_get xs k ≡ Some x)
  place_of_item xs x (k, within, is) = (k, slice_get-get_or xs k x within ∙ ap Some is)

  -- what holds of each item that a list has holds along the list
  pub along : (P : X → Type 0) (xs : List X) → ((x : X) → Contains xs x → P x) → AllByRecursion P xs
  along P [] each = tt
  along P (x ∷ xs) each = (each x (has_first x xs), along P xs (λ y has. each y (has_later x xs y has)))

  -- what holds along a list holds of each of its items
  pub each_along : (P : X → Type 0) (xs : List X) → AllByRecursion P xs → (x : X) → Contains xs x → P x
  each_along P xs all x has = All-contains P xs x (All-from_recursion P xs all) has

  -- what holds of each item of a list holds at each of its places
  pub all_from_contains : (P : X → Type 0) (xs : List X) → ((x : X) → Contains xs x → P x) → All P xs
  all_from_contains P xs each k d below = each (get_or xs k d) (Contains-get_or xs k d below)

  -- a filter keeps the items that pass its test
  pub filter_has : (test : X → Bool) (xs : List X) (x : X) → Contains xs x → test x ≡ true → Contains (filter test xs) x
  filter_has test [] x has pass = absurd (none_in_nil x has)
  filter_has test (y ∷ xs) x has pass =
      elim (first_or_later y xs x has) [
        | inl same ↦ at_first (test y) (ap test same ∙ pass) same
        | inr later ↦ at_later (test y) (filter_has test xs x later pass)
      ]
    where
      at_first : (b : Bool) → b ≡ true → y ≡ x → Contains (cond b (y ∷ filter test xs) (filter test xs)) x
      at_first true e same = subst (λ z. Contains (y ∷ filter test xs) z) same (has_first y (filter test xs))
      at_first false e same = absurd (true≢false (sym e))

      at_later : (b : Bool) → Contains (filter test xs) x → Contains (cond b (y ∷ filter test xs) (filter test xs)) x
      at_later true rest = has_later y (filter test xs) x rest
      at_later false rest = rest

  -- each item that a filter keeps is one of the list and passes its test
  pub from_filter : (test : X → Bool) (xs : List X) (x : X) → Contains (filter test xs) x → Contains xs x × (test x ≡ true)
  from_filter test [] x has = absurd (none_in_nil x has)
  from_filter test (y ∷ xs) x has = by (test y) refl has (from_filter test xs x) where
    by : (b : Bool) → test y ≡ b → Contains (cond b (y ∷ filter test xs) (filter test xs)) x
        → (Contains (filter test xs) x → Contains xs x × (test x ≡ true)) → Contains (y ∷ xs) x × (test x ≡ true)
    by true e has rest =
        elim (first_or_later y (filter test xs) x has) [
          | inl same ↦ (subst (λ z. Contains (y ∷ xs) z) same (has_first y xs), ap test (sym same) ∙ e)
          | inr later ↦ (has_later y xs x (rest later).0, (rest later).1)
        ]
    by false e has rest = (has_later y xs x (rest has).0, (rest has).1)

module _ {X Y : Type 0} (f : X → Y) where
  -- the image of an item is in the mapped list
  pub map_has : (xs : List X) (x : X) → Contains xs x → Contains (map f xs) (f x)
  map_has [] x has = absurd (none_in_nil x has)
  map_has (y ∷ xs) x has =
      elim (first_or_later y xs x has) [
        | inl same ↦ subst (λ z. Contains (f y ∷ map f xs) (f z)) same (has_first (f y) (map f xs))
        | inr later ↦ has_later (f y) (map f xs) (f x) (map_has xs x later)
      ]

  -- each item of a mapped list is the image of an item of the list
  pub from_map : (xs : List X) (y : Y) → Contains (map f xs) y → (x : X) × Contains xs x × (f x ≡ y)
  from_map [] y has = absurd (none_in_nil y has)
  from_map (x ∷ xs) y has =
      elim (first_or_later (f x) (map f xs) y has) [
        | inl same ↦ (x, has_first x xs, same)
        | inr later ↦ (let rest = from_map xs y later in (rest.0, has_later x xs rest.0 rest.1, rest.2))
      ]

module _ {X Y : Type 0} (f : X → List Y) where
  -- the items of an item's list are in all lists together
  pub flat_map_has : (xs : List X) (x : X) (y : Y) → Contains xs x → Contains (f x) y → Contains (flat_map f xs) y
  flat_map_has [] x y has inner = absurd (none_in_nil x has)
  flat_map_has (z ∷ xs) x y has inner =
      elim (first_or_later z xs x has) [
        | inl same ↦ Contains-append_left (f z) (flat_map f xs) y (subst (λ w. Contains (f w) y) (sym same) inner)
        | inr later ↦ Contains-append_right (f z) (flat_map f xs) y (flat_map_has xs x y later inner)
      ]

  -- each item of all lists together is one of the list that some item gives
  pub from_flat_map : (xs : List X) (y : Y) → Contains (flat_map f xs) y → (x : X) × Contains xs x × Contains (f x) y
  from_flat_map [] y has = absurd (none_in_nil y has)
  from_flat_map (x ∷ xs) y has =
      elim (Contains-append_cases (f x) (flat_map f xs) y has) [
        | inl here ↦ (x, has_first x xs, here)
        | inr later ↦ (let rest = from_flat_map xs y later in (rest.0, has_later x xs rest.0 rest.1, rest.2))
      ]

module _ {X : Type 0} (R : X → X → Type 0) where
  -- if each two items of a list are related, the first is related to each later one
  pub pairs_first : (x : X) (xs : List X) → AllPairs R (x ∷ xs) → (later : X) → Contains xs later → R x later
  pairs_first x xs pairs later (k, below, is) =
      subst (λ (z : X). R x z) is (pairs 0 (suc k) later (omega arith) (omega arith))

  -- if each two items of a list are related, each two behind the first are
  pub pairs_rest : (x : X) (xs : List X) → AllPairs R (x ∷ xs) → AllPairs R xs
  pairs_rest x xs pairs = λ i j d before within. pairs (suc i) (suc j) d (omega arith) (omega arith)

  -- each two items of a list with one more at its end are related, if each two before are and each of them to the new
  -- one
  pub pairs_more : (xs : List X) (x : X) → AllPairs R xs → ((y : X) → Contains xs y → R y x) → AllPairs R (xs ++ x ∷ [])
  pairs_more [] x pairs last i j d before within = absurd (omega arith)
  pairs_more (y ∷ xs) x pairs last zero zero d before within = absurd (omega arith)
  pairs_more (y ∷ xs) x pairs last zero (suc j) d before within =
      elim (Contains-append_cases xs (x ∷ []) (get_or (xs ++ x ∷ []) j d) (Contains-get_or (xs ++ x ∷ []) j d (omega arith))) [
        | inl old ↦ pairs_first y xs pairs (get_or (xs ++ x ∷ []) j d) old
        | inr end ↦ elim (first_or_later x [] (get_or (xs ++ x ∷ []) j d) end) [
          | inl is ↦ subst (R y) is (last y (has_first y xs))
          | inr none ↦ absurd (none_in_nil (get_or (xs ++ x ∷ []) j d) none)
        ]
      ]
  pairs_more (y ∷ xs) x pairs last (suc i) zero d before within = absurd (omega arith)
  pairs_more (y ∷ xs) x pairs last (suc i) (suc j) d before within =
      pairs_more xs x (pairs_rest y xs pairs) (λ z has. last z (has_later y xs z has)) i j d (omega arith) (omega arith)

module _ {X Y : Type 0} (f : X → Y) where
  -- what holds of each item's image holds along the mapped list
  pub all_images : (P : Y → Type 0) (xs : List X) → ((x : X) → Contains xs x → P (f x)) → AllByRecursion P (map f xs)
  all_images P [] each = tt
  all_images P (x ∷ xs) each = (each x (has_first x xs), all_images P xs (λ y has. each y (has_later x xs y has)))

  -- what holds of the images of each two items holds of each two of the mapped list
  pub pairs_of_images : (R : Y → Y → Type 0) (xs : List X) → AllPairs (λ a b. R (f a) (f b)) xs → AllPairs R (map f xs)
  pairs_of_images R [] pairs = λ i j d before within. absurd (omega arith)
  pairs_of_images R (x ∷ xs) pairs = λ i j d before within.
      let long : length (map f (x ∷ xs)) ≡ length (x ∷ xs) = length-map (x ∷ xs) f in
      let later : j < length (x ∷ xs) = omega arith in
      let earlier : i < length (x ∷ xs) = omega arith in
      let second = get_or-map f (x ∷ xs) j x d later in
      let one = get_or-map f (x ∷ xs) i x d earlier in
      rw (second, one) (pairs i j x before later)
