-- What stands at which place of a list, after an append, a write, a map and a change of order.
use Rattle.std.proofs.Common.{◌≡◌, ℕ, zero, suc, ◌+◌, ◌<◌, ◌==◌, Bool, true, false, cond, List, [], ◌∷◌, ◌++◌, length, map, get_or, set, count_by, Option, Some, None, IfSome, slice_get, refl, sym, ◌∙◌, ap, subst, arith, ◌⊎◌, inl, inr, ⊎_elim}
use Rattle.std.specs.Prelude.{Result, Ok, Err, is_err, OnOk}
use Rattle.std.specs.List.{swap}
use Rattle.std.specs.List.Sorted.{IsPermutation}
use Rattle.std.proofs.lemmas.Bool.{cases_eq, ne_eqb, eq-eqb}
use Rattle.std.proofs.lemmas.Option.{slice_get_within, slice_get-get_or, get_or_from_slice_get}
use Rattle.std.proofs.lemmas.List.{length-set}
use Rattle.std.proofs.lemmas.List.Sums.{sum_by-set, count_by-le-length}
use Rattle.std.proofs.lemmas.List.Sorted.{IsPermutation-keeps}
use Rattle.pool_core.proofs.Lists.{slice_get-set_same, slice_get-set_other, count_by-cons}
use Rattle.verdict_book.specs.Items.{NoneTwice}

module _ {X : Type 0} where
  -- an item of the first of two lists in a row is one of the row, at its place
  pub get_left : (xs ys : List X) (k : ℕ) (x : X) → slice_get xs k ≡ Some x → slice_get (xs ++ ys) k ≡ Some x
  get_left [] ys k x h = absurd cc
  get_left (y ∷ xs) ys zero x h = h
  get_left (y ∷ xs) ys (suc k) x h = get_left xs ys k x h

  -- an item of the second of two lists in a row is one of the row, behind the first list
  pub get_right : (xs ys : List X) (k : ℕ) (x : X) → slice_get ys k ≡ Some x → slice_get (xs ++ ys) (length xs + k) ≡ Some x
  get_right [] ys k x h = ap (λ n. slice_get ys n) (omega arith) ∙ h
  get_right (y ∷ xs) ys k x h = let e : suc (length xs) + k ≡ suc (length xs + k) = omega arith in ap (λ n. slice_get (y ∷ (xs ++ ys)) n) e ∙ get_right xs ys k x h

  -- an item of two lists in a row is one of the first or of the second
  pub get_cases : (xs ys : List X) (k : ℕ) (x : X) → slice_get (xs ++ ys) k ≡ Some x → (slice_get xs k ≡ Some x) ⊎ ((p : ℕ) × (k ≡ length xs + p) × (slice_get ys p ≡ Some x))
  get_cases [] ys k x h = inr (k, omega arith, h)
  get_cases (y ∷ xs) ys zero x h = inl h
  get_cases (y ∷ xs) ys (suc k) x h = ⊎_elim (λ l. inl l) (λ r. inr (r.0, omega (arith, r.1), r.2)) (get_cases xs ys k x h)

  -- of two options that are equal and have a value, the values are equal
  pub some_same : (x y : X) → Some x ≡ Some y → x ≡ y
  some_same x y e = cc

  -- two items at the same place of a list are equal
  pub one_value : (xs : List X) (k : ℕ) (x y : X) → slice_get xs k ≡ Some x → slice_get xs k ≡ Some y → x ≡ y
  one_value xs k x y a b = some_same x y (sym a ∙ b)

  -- what holds of each value that an option may have holds of its value, if it has one
  pub if_some : (o : Option X) (P : X → Type 0) → ((x : X) → o ≡ Some x → P x) → IfSome o P
  if_some None P each = tt
  if_some (Some x) P each = each x refl

  -- what holds of the value, if there is one, holds of the value that is there
  pub some_in : (o : Option X) (P : X → Type 0) (x : X) → IfSome o P → o ≡ Some x → P x
  some_in None P x h e = absurd cc
  some_in (Some y) P x h e = subst P (some_same y x e) h

  -- what holds where a call gives a value holds, if the call has no error
  pub ok_means : {E : Type 0} (r : Result X E) (P : Type 0) → is_err r ≡ false → OnOk r P → P
  ok_means (Ok x) P e h = h
  ok_means (Err x) P e h = absurd cc

  -- if an item takes the place of another, the count changes by the two
  pub count_set : (p : X → Bool) (xs : List X) (k : ℕ) (x y : X) → slice_get xs k ≡ Some x → count_by p (set xs k y) + cond (p x) 1 0 ≡ count_by p xs + cond (p y) 1 0
  count_set p xs k x y h = ap (λ v. count_by p (set xs k y) + cond (p v) 1 0) (sym (get_or_from_slice_get xs k x x h)) ∙ sum_by-set (λ v. cond (p v) 1 0) xs k y x (slice_get_within xs k x h)

  -- where the items that are counted are as many as the places, each item is counted
  pub all_counted : (p : X → Bool) (xs : List X) → count_by p xs ≡ length xs → (k : ℕ) (x : X) → slice_get xs k ≡ Some x → p x ≡ true
  all_counted p [] e k x h = absurd cc
  all_counted p (y ∷ xs) e k x h =
      let low = count_by-le-length p xs in
      let c = count_by-cons p y xs in
      elim (p y) as (λ (b : Bool). p y ≡ b → p x ≡ true) [
        | true ↦ (λ is.
            let rest : count_by p (y ∷ xs) ≡ 1 + count_by p xs = c ∙ rw is refl in
            later k h is (all_counted p xs (omega (arith, rest, e))))
        | false ↦ (λ is. absurd (let rest : count_by p (y ∷ xs) ≡ 0 + count_by p xs = c ∙ rw is refl in omega (arith, rest, low, e)))
      ] refl
    where
      later : (n : ℕ) → slice_get (y ∷ xs) n ≡ Some x → p y ≡ true → ((m : ℕ) (z : X) → slice_get xs m ≡ Some z → p z ≡ true) → p x ≡ true
      later zero got is rest = ap p (sym (some_same y x got)) ∙ is
      later (suc n) got is rest = rest n x got

  -- if each item is counted, as many are counted as there are
  pub counted_all : (p : X → Bool) (xs : List X) → ((k : ℕ) (x : X) → slice_get xs k ≡ Some x → p x ≡ true) → count_by p xs ≡ length xs
  counted_all p [] all = refl
  counted_all p (x ∷ xs) all =
      let rest = counted_all p xs (λ k y at. all (suc k) y at) in
      let one : count_by p (x ∷ xs) ≡ 1 + count_by p xs = count_by-cons p x xs ∙ rw (all 0 x refl) refl in
      omega (arith, one, rest)

module _ {X Y : Type 0} (f : X → Y) where
  -- an item of a list of values is the value of an item
  pub get_map : (xs : List X) (k : ℕ) (x : X) → slice_get xs k ≡ Some x → slice_get (map f xs) k ≡ Some (f x)
  get_map [] k x h = absurd cc
  get_map (y ∷ xs) zero x h = cc
  get_map (y ∷ xs) (suc k) x h = get_map xs k x h

  -- a write that keeps the value of an item keeps the list of values
  pub map_set_same : (xs : List X) (k : ℕ) (x y : X) → slice_get xs k ≡ Some x → f y ≡ f x → map f (set xs k y) ≡ map f xs
  map_set_same [] k x y h e = refl
  map_set_same (z ∷ xs) zero x y h e = let same : z ≡ x = cc in ap (λ v. v ∷ map f xs) (e ∙ ap f (sym same))
  map_set_same (z ∷ xs) (suc k) x y h e = ap (λ l. f z ∷ l) (map_set_same xs k x y h e)

  -- no value of a mapped list is counted, if none of the function's values is
  pub count_map_none : (p : Y → Bool) (xs : List X) → ((x : X) → p (f x) ≡ false) → count_by p (map f xs) ≡ 0
  count_map_none p [] none = refl
  count_map_none p (x ∷ xs) none = count_by-cons p (f x) (map f xs) ∙ rw (none x, count_map_none p xs none) refl

-- where the item of a place stands after an exchange of two places
abbrev pub moved : ℕ → ℕ → ℕ → ℕ
moved i j k = cond (k == j) i (cond (k == i) j k)

-- exchanging two places twice puts each item back
pub moved_back : (i j k : ℕ) → moved i j (moved i j k) ≡ k
moved_back i j k =
    ⊎_elim
    (λ (e : k ≡ j).
    ⊎_elim
    (λ (f : i ≡ j). rw (e, f, eq-eqb j j refl, eq-eqb j j refl) refl)
    (λ (n : i ≡ j → ⊥). rw (e, eq-eqb j j refl, ne_eqb i j n, eq-eqb i i refl) refl)
    (cases_eq i j))
    (λ (n : k ≡ j → ⊥).
    ⊎_elim
    (λ (e : k ≡ i). rw (ne_eqb k j n, eq-eqb k i e, eq-eqb j j refl) (sym e))
    (λ (m : k ≡ i → ⊥). rw (ne_eqb k j n, ne_eqb k i m, ne_eqb k j n, ne_eqb k i m) refl)
    (cases_eq k i))
    (cases_eq k j)

module _ {X : Type 0} where
  -- what stands at a place after an exchange stood where it leads
  pub get_swap : (xs : List X) (i j k : ℕ) → i < length xs → j < length xs → slice_get (swap xs i j) k ≡ slice_get xs (moved i j k)
  get_swap [] i j k hi hj = absurd (omega (arith, hi))
  get_swap (d ∷ ys) i j k hi hj =
      let xs : List X = d ∷ ys in
      let first = set xs i (get_or xs j d) in
      ⊎_elim
      (λ (e : k ≡ j). rw (e, eq-eqb j j refl) (slice_get-set_same first j (get_or xs i d) (omega (arith, hj, length-set xs i (get_or xs j d))) ∙ sym (slice_get-get_or xs i d hi)))
      (λ (n : k ≡ j → ⊥).
      slice_get-set_other first j k (get_or xs i d) n
      ∙ ⊎_elim
      (λ (e : k ≡ i). rw (ne_eqb k j n, eq-eqb k i e) (ap (slice_get first) e ∙ slice_get-set_same xs i (get_or xs j d) hi ∙ sym (slice_get-get_or xs j d hj)))
      (λ (m : k ≡ i → ⊥). rw (ne_eqb k j n, ne_eqb k i m) (slice_get-set_other xs i k (get_or xs j d) m))
      (cases_eq k i))
      (cases_eq k j)

  -- the second list has the items of the first
  abbrev pub HasItems : List X → List X → Type 0
  HasItems xs ys = (x : X) → ((k : ℕ) × (slice_get xs k ≡ Some x)) → (k : ℕ) × (slice_get ys k ≡ Some x)

  -- a change of order leaves each item once
  pub none_twice_permuted : (xs ys : List X) → IsPermutation xs ys → NoneTwice xs → NoneTwice ys
  none_twice_permuted xs ys perm once =
      IsPermutation-keeps xs NoneTwice once (λ l i j hi hj old a b x ha hb.
      let same = old (moved i j a) (moved i j b) x (sym (get_swap l i j a hi hj) ∙ ha) (sym (get_swap l i j b hi hj) ∙ hb) in
      sym (moved_back i j a) ∙ ap (moved i j) same ∙ moved_back i j b) ys perm

  -- a list in another order has the same items
  pub items_permuted : (xs ys : List X) → IsPermutation xs ys → HasItems xs ys
  items_permuted xs ys perm =
      IsPermutation-keeps xs (HasItems xs) (λ x h. h) (λ l i j hi hj old x h.
      let at = old x h in
      (moved i j at.0, get_swap l i j (moved i j at.0) hi hj ∙ ap (slice_get l) (moved_back i j at.0) ∙ at.1)) ys perm
