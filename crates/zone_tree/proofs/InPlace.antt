-- Where an item goes among items in order: behind those that it stands behind.
use Rattle.std.proofs.Common.{◌≡◌, ℕ, zero, suc, ◌+◌, ◌<◌, List, [], ◌∷◌, ◌++◌, map, length, get_or, take, drop, Bor, Ordering, Less, Equal, Greater, sym, refl, ap, ◌∙◌, append_assoc, arith}
use Rattle.std.specs.List.{insert}
use Rattle.std.proofs.lemmas.List.{drop_more, take_more, take-append-drop}
use Rattle.dns_data.specs.Name.{Labels}
use Rattle.net_model.specs.Order.{put_in_order, beside}
use Rattle.zone_tree.proofs.ByText.{now_of}

-- the item stands behind the first items
abbrev pub StandsBehind : {A : Type 0} → (A → A → Ordering) → A → List A → ℕ → Type 0
StandsBehind cmp item items place = put_in_order cmp item items ≡ take place items ++ put_in_order cmp item (drop place items)

module _ {A : Type 0} (cmp : A → A → Ordering) (item : A) (items : List A) where
  -- where it goes beside the item at a place
  put_beside : (place : ℕ) (d : A) (o : Ordering) → place < length items → cmp item (get_or items place d) ≡ o
      → put_in_order cmp item (drop place items)
      ≡ beside item (get_or items place d) (drop (place + 1) items) (put_in_order cmp item (drop (place + 1) items)) o
  put_beside place d o within is =
      ap (put_in_order cmp item) (drop_more items place d within)
      ∙ ap (beside item (get_or items place d) (drop (place + 1) items) (put_in_order cmp item (drop (place + 1) items))) is

  -- an item that stands behind the items before a place and behind the one there stands behind all up to it
  pub behind_more : (place : ℕ) (d : A) → place < length items → cmp item (get_or items place d) ≡ Greater
      → StandsBehind cmp item items place → StandsBehind cmp item items (place + 1)
  behind_more place d within is behind =
      behind
      ∙ ap (λ (xs : List A). take place items ++ xs) (put_beside place d Greater within is)
      ∙ sym (append_assoc (take place items) (get_or items place d ∷ []) (put_in_order cmp item (drop (place + 1) items)))
      ∙ ap (λ (xs : List A). xs ++ put_in_order cmp item (drop (place + 1) items)) (sym (take_more items place d within))

  -- an item that is put in order goes before the first item behind which it doesn't stand
  pub put_before : (place : ℕ) (d : A) → place < length items → cmp item (get_or items place d) ≡ Less
      → StandsBehind cmp item items place → put_in_order cmp item items ≡ insert items place item
  put_before place d within is behind =
      behind
      ∙ ap (λ (xs : List A). take place items ++ xs) (put_beside place d Less within is)
      ∙ ap (λ (xs : List A). take place items ++ item ∷ xs) (sym (drop_more items place d within))

  -- an item that is put in order goes nowhere if it ties with the first item behind which it doesn't stand
  pub put_nowhere : (place : ℕ) (d : A) → place < length items → cmp item (get_or items place d) ≡ Equal
      → StandsBehind cmp item items place → put_in_order cmp item items ≡ items
  put_nowhere place d within is behind =
      behind
      ∙ ap (λ (xs : List A). take place items ++ xs) (put_beside place d Equal within is)
      ∙ ap (λ (xs : List A). take place items ++ xs) (sym (drop_more items place d within))
      ∙ take-append-drop place items

-- ---- names behind references

-- the name at a place
pub name_at : (names : List (Bor Labels)) (place : ℕ) (name : Bor Labels) → place < length names → name ≡ get_or names place name
    → get_or (map now_of names) place [] ≡ name.now
name_at [] place name within is = absurd (omega arith)
name_at (first ∷ names) zero name within is = ap now_of (sym is)
name_at (first ∷ names) (suc place) name within is = name_at names place name (omega arith) is

-- the names behind references, with one inserted at a place, are the names with the one behind its reference inserted
-- there
pub now_inserted : (names : List (Bor Labels)) (place : ℕ) (name : Bor Labels) → map now_of (insert names place name) ≡ insert (map now_of names) place name.now
now_inserted names zero name = refl
now_inserted [] (suc place) name = refl
now_inserted (first ∷ names) (suc place) name = ap (λ (xs : List Labels). first.now ∷ xs) (now_inserted names place name)
