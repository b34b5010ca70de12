-- Items of lists by their numbers, where items are put behind others or one over another; and lists that stand side by
-- side.
use Rattle.std.proofs.Common.{◌≡◌, ℕ, zero, suc, ◌<◌, ◌≤◌, List, [], ◌∷◌, ◌++◌, map, length, get_or, Some, refl, sym, ap, ◌∙◌, subst, inl, inr, arith}
use Rattle.std.specs.Prelude.{◌⊎◌, AllPairs, Contains, slice_get, set}
use Rattle.std.specs.List.{AllZip}
use Rattle.std.proofs.lemmas.List.{length-map, get_or-map}
use Rattle.std.proofs.lemmas.Option.{same_Some, slice_get-get_or}
use Rattle.dns_data.proofs.Membership.{none_in_nil, has_first, has_later, first_or_later}
use Rattle.graph_form.proofs.Places.{item_there}

module _ {A : Type 0} where
  -- an item of a list with one more is an item of the list, or the one put behind it
  pub from_pushed : (xs : List A) (x y : A) (k : ℕ) → slice_get (xs ++ x ∷ []) k ≡ Some y
      → (slice_get xs k ≡ Some y) ⊎ ((k ≡ length xs) × (x ≡ y))
  from_pushed [] x y zero e = let same : x ≡ y = cc in inr (refl, same)
  from_pushed [] x y (suc k) e = cc
  from_pushed (z ∷ xs) x y zero e = inl e
  from_pushed (z ∷ xs) x y (suc k) e =
      elim (from_pushed xs x y k e) [
        | inl there ↦ inl there
        | inr new ↦ inr (ap suc new.0, new.1)
      ]

  -- an item of two lists in a row is one of the first with its number, or one of the second
  pub from_row : (xs ys : List A) (y : A) (k : ℕ) → slice_get (xs ++ ys) k ≡ Some y → (slice_get xs k ≡ Some y) ⊎ ((length xs ≤ k) × Contains ys y)
  from_row [] ys y k e = inr (omega arith, item_there ys k y e)
  from_row (x ∷ xs) ys y zero e = inl e
  from_row (x ∷ xs) ys y (suc k) e =
      elim (from_row xs ys y k e) [
        | inl there ↦ inl there
        | inr behind ↦ inr (omega (arith, behind.0), behind.1)
      ]

  -- the items of a list keep their numbers if others are put behind it
  pub in_front : (xs ys : List A) (k : ℕ) (x : A) → slice_get xs k ≡ Some x → slice_get (xs ++ ys) k ≡ Some x
  in_front [] ys k x e = cc
  in_front (z ∷ xs) ys zero x e = e
  in_front (z ∷ xs) ys (suc k) x e = in_front xs ys k x e

  -- an item that is put behind a list has the list's length as its number
  pub pushed_there : (xs : List A) (x : A) → slice_get (xs ++ x ∷ []) (length xs) ≡ Some x
  pushed_there [] x = refl
  pushed_there (z ∷ xs) x = pushed_there xs x

  -- an item that is put over another has the other's number
  pub set_there : (xs : List A) (i : ℕ) (x y : A) → slice_get xs i ≡ Some y → slice_get (set xs i x) i ≡ Some x
  set_there [] i x y e = cc
  set_there (z ∷ xs) zero x y e = refl
  set_there (z ∷ xs) (suc i) x y e = set_there xs i x y e

  -- a number below the length has an item
  pub item_below : (xs : List A) (k : ℕ) → k < length xs → (x : A) × (slice_get xs k ≡ Some x)
  item_below [] k below = absurd (omega (arith, below))
  item_below (x ∷ xs) zero below = (x, refl)
  item_below (x ∷ xs) (suc k) below = item_below xs k (omega (arith, below))

  -- an item below the length stands with its number
  pub item_is : (xs : List A) (i : ℕ) (x : A) → i < length xs → x ≡ get_or xs i x → slice_get xs i ≡ Some x
  item_is xs i x below is = slice_get-get_or xs i x below ∙ ap Some (sym is)

  -- items of a list with the same number are equal
  pub one_there : (xs : List A) (k : ℕ) (x y : A) → slice_get xs k ≡ Some x → slice_get xs k ≡ Some y → x ≡ y
  one_there xs k x y one other = same_Some x y (sym one ∙ other)

module _ {A B : Type 0} where
  -- an item of a mapped list is the image of the item with its number
  pub from_mapped : (f : A → B) (xs : List A) (k : ℕ) (y : B) → slice_get (map f xs) k ≡ Some y
      → (x : A) × (slice_get xs k ≡ Some x) × (f x ≡ y)
  from_mapped f [] k y e = cc
  from_mapped f (x ∷ xs) zero y e = let same : f x ≡ y = cc in (x, refl, same)
  from_mapped f (x ∷ xs) (suc k) y e = from_mapped f xs k y e

  -- the image of an item stands in the mapped list with the item's number
  pub mapped_there : (f : A → B) (xs : List A) (k : ℕ) (x : A) → slice_get xs k ≡ Some x → slice_get (map f xs) k ≡ Some (f x)
  mapped_there f [] k x e = cc
  mapped_there f (y ∷ xs) zero x e = let same : y ≡ x = cc in ap (λ z. Some (f z)) same
  mapped_there f (y ∷ xs) (suc k) x e = mapped_there f xs k x e

  -- what holds of a list and images of another side by side
  pub beside_images : {C : Type 0} (R : A → C → Type 0) (f : B → C) (xs : List A) (ys : List B) → AllZip (λ x y. R x (f y)) xs ys → AllZip R xs (map f ys)
  beside_images R f [] [] all = tt
  beside_images R f [] (y ∷ ys) all = absurd all
  beside_images R f (x ∷ xs) [] all = absurd all
  beside_images R f (x ∷ xs) (y ∷ ys) all = (all.0, beside_images R f xs ys all.1)

  -- of lists side by side the images are one list, if those of two items beside each other are equal
  pub same_images : {C : Type 0} (R : A → B → Type 0) (f : A → C) (g : B → C) → ((x : A) (y : B) → R x y → f x ≡ g y) → (xs : List A) (ys : List B)
      → AllZip R xs ys → map f xs ≡ map g ys
  same_images R f g same [] [] all = refl
  same_images R f g same [] (y ∷ ys) all = absurd all
  same_images R f g same (x ∷ xs) [] all = absurd all
  same_images R f g same (x ∷ xs) (y ∷ ys) all =
      ap (λ z. z ∷ map f xs) (same x y all.0) ∙ ap (λ zs. g y ∷ zs) (same_images R f g same xs ys all.1)

  -- what holds of two lists side by side may say less
  pub side_by_side : (R S : A → B → Type 0) (xs : List A) (ys : List B) → ((x : A) (y : B) → R x y → S x y) → AllZip R xs ys → AllZip S xs ys
  side_by_side R S [] [] less all = all
  side_by_side R S [] (y ∷ ys) less all = absurd all
  side_by_side R S (x ∷ xs) [] less all = absurd all
  side_by_side R S (x ∷ xs) (y ∷ ys) less all = (less x y all.0, side_by_side R S xs ys less all.1)

  -- of two lists side by side, each item of the first has an item of the second beside it
  pub beside : (R : A → B → Type 0) (xs : List A) (ys : List B) (x : A) → AllZip R xs ys → Contains xs x
      → (y : B) × Contains ys y × R x y
  beside R [] ys x all has = absurd (none_in_nil x has)
  beside R (z ∷ xs) [] x all has = absurd all
  beside R (z ∷ xs) (y ∷ ys) x all has =
      elim (first_or_later z xs x has) [
        | inl same ↦ (y, has_first y ys, subst (λ w. R w y) same all.0)
        | inr later ↦ (let there = beside R xs ys x all.1 later in (there.0, has_later y ys there.0 there.1, there.2))
      ]

  -- of two lists side by side, each item of the second has an item of the first beside it
  pub beside_other : (R : A → B → Type 0) (xs : List A) (ys : List B) (y : B) → AllZip R xs ys → Contains ys y
      → (x : A) × Contains xs x × R x y
  beside_other R xs [] y all has = absurd (none_in_nil y has)
  beside_other R [] (z ∷ ys) y all has = absurd all
  beside_other R (x ∷ xs) (z ∷ ys) y all has =
      elim (first_or_later z ys y has) [
        | inl same ↦ (x, has_first x xs, subst (R x) same all.0)
        | inr later ↦ (let there = beside_other R xs ys y all.1 later in (there.0, has_later x xs there.0 there.1, there.2))
      ]

  -- two lists side by side stay so with a related pair put at their ends
  pub beside_pushed : (R : A → B → Type 0) (xs : List A) (ys : List B) (x : A) (y : B) → AllZip R xs ys → R x y
      → AllZip R (xs ++ x ∷ []) (ys ++ y ∷ [])
  beside_pushed R [] [] x y all one = (one, tt)
  beside_pushed R [] (z ∷ ys) x y all one = absurd all
  beside_pushed R (z ∷ xs) [] x y all one = absurd all
  beside_pushed R (z ∷ xs) (w ∷ ys) x y all one = (all.0, beside_pushed R xs ys x y all.1 one)

-- what holds of the images of each two items of a list holds of the items
pub pairs_from_images : {X Y : Type 0} (f : X → Y) (R : Y → Y → Type 0) (xs : List X) → AllPairs R (map f xs)
    → AllPairs (λ a b. R (f a) (f b)) xs
pairs_from_images f R xs pairs = λ i j d before within.
    let long : length (map f xs) ≡ length xs = length-map xs f in
    let one = get_or-map f xs i d (f d) (omega (arith, before, within)) in
    let other = get_or-map f xs j d (f d) within in
    let there = pairs i j (f d) before (omega (arith, long, within)) in
    subst (λ y. R y (f (get_or xs j d))) one (subst (λ y. R (get_or (map f xs) i (f d)) y) other there)
