-- Items of lists by their places, and what a search finds.
use Rattle.std.proofs.Common.{◌≡◌, ℕ, zero, suc, ◌+◌, ◌<◌, length, drop, get_or, drop-cons, length-append, ap, sym, ◌∙◌, arith, List, [], ◌∷◌, ◌++◌, refl, Some, None, inl, inr}
use Rattle.std.specs.Prelude.{◌⊎◌, AllPairs, Contains, slice_get}
use Rattle.std.proofs.lemmas.List.Elements.{Contains-append_cases}
use Rattle.std.proofs.lemmas.List.Kept.{AllPairs-cons}
use Rattle.std.specs.List.{AllZip, flat_map}
pub use Rattle.dns_data.proofs.Membership.{item_there, place_of_item}
pub use Rattle.dns_data.proofs.Searches.{found_there}
use Rattle.dns_data.proofs.Membership.{has_first, has_later, all_from_contains, from_flat_map, pairs_first, pairs_rest}

-- the two lists both have an item at the place, and the two are a pair
pub record PairAt {A B : Type 0} (R : A → B → Type 0) (xs : List A) (ys : List B) (k : ℕ) : Type 0 where
  pub one : A
  pub other : B
  pub at_one : slice_get xs k ≡ Some one
  pub at_other : slice_get ys k ≡ Some other
  pub paired : R one other
  pub has : Contains xs one

-- at each place two lists of pairs both have an item of a pair, or neither has an item
pub pair_at : {A B : Type 0} (R : A → B → Type 0) (xs : List A) (ys : List B) → AllZip R xs ys → (k : ℕ)
    → ((slice_get xs k ≡ None) × (slice_get ys k ≡ None)) ⊎ PairAt R xs ys k
pair_at R [] [] all k = inl (refl, refl)
pair_at R [] (y ∷ ys) all k = absurd all
pair_at R (x ∷ xs) [] all k = absurd all
pair_at R (x ∷ xs) (y ∷ ys) all zero =
    inr (record { one = x; other = y; at_one = refl; at_other = refl; paired = all.0; has = has_first x xs })
pair_at R (x ∷ xs) (y ∷ ys) all (suc k) = by (pair_at R xs ys all.1 k) where
  by : ((slice_get xs k ≡ None) × (slice_get ys k ≡ None)) ⊎ PairAt R xs ys k
      → ((slice_get xs k ≡ None) × (slice_get ys k ≡ None)) ⊎ PairAt R (x ∷ xs) (y ∷ ys) (suc k)
  by (inl none) = inl none
  by (inr found) = inr (record { one = found.one; other = found.other; at_one = found.at_one; at_other = found.at_other; paired = found.paired; has = has_later x xs found.one found.has })

-- as many items in a row from a place on as of the item there and from the next place on
pub count_next : {A B : Type 0} (f : A → List B) (xs : List A) (i : ℕ) (x : A) → i < length xs → x ≡ get_or xs i x
    → length (flat_map f (drop i xs)) ≡ length (f x) + length (flat_map f (drop (i + 1) xs))
count_next f xs i x below is =
    let next : suc i ≡ i + 1 = omega arith in
    ap (λ left. length (flat_map f left)) (drop-cons xs i x below ∙ (ap (λ one. one ∷ drop (suc i) xs) (sym is) ∙ ap (λ n. x ∷ drop n xs) next))
    ∙ length-append (f x) (flat_map f (drop (i + 1) xs))

-- each two items of two lists in a row are related, if those of each list are and those of the first to those of the
-- second
pub pairs_joined : {B : Type 0} (R : B → B → Type 0) (xs ys : List B) → AllPairs R xs → AllPairs R ys
    → ((x y : B) → Contains xs x → Contains ys y → R x y) → AllPairs R (xs ++ ys)
pairs_joined R [] ys one other across = other
pairs_joined R (x ∷ xs) ys one other across =
    AllPairs-cons R x (xs ++ ys)
    (all_from_contains (R x) (xs ++ ys) (λ y has. elim (Contains-append_cases xs ys y has) [
      | inl here ↦ pairs_first R x xs one y here
      | inr there ↦ across x y (has_first x xs) there
    ]))
    (pairs_joined R xs ys (pairs_rest R x xs one) other (λ a b here there. across a b (has_later x xs a here) there))

-- the items of lists in a row are pairs of a kind, where those of each list are, and those of two lists
pub pairs_in_row : {A B : Type 0} (R : B → B → Type 0) (f : A → List B) (xs : List A) → ((x : A) → Contains xs x → AllPairs R (f x))
    → AllPairs (λ a b. (y z : B) → Contains (f a) y → Contains (f b) z → R y z) xs → AllPairs R (flat_map f xs)
pairs_in_row {B = B} R f [] each across = λ i j d lt within. absurd (omega arith)
pairs_in_row {B = B} R f (x ∷ xs) each across =
    pairs_joined R (f x) (flat_map f xs) (each x (has_first x xs))
    (pairs_in_row R f xs (λ one has. each one (has_later x xs one has)) (pairs_rest (λ a b. (y z : B) → Contains (f a) y → Contains (f b) z → R y z) x xs across))
    (λ y z here there. let from = from_flat_map f xs z there in
    pairs_first (λ a b. (y z : B) → Contains (f a) y → Contains (f b) z → R y z) x xs across from.0 from.1 y z here from.2)
