-- The lines of rows, of each by those before it; and searches among rows with one more.
use Rattle.std.proofs.Common.{◌≡◌, ℕ, ◌+◌, ◌<◌, length, take, get_or, Bool, true, false, cond, List, [], ◌∷◌, ◌++◌, map, filter, Some, None, append_assoc, append-nil, Bor, refl, sym, ap, ◌∙◌}
use Rattle.std.specs.List.{find, flat_map}
use Rattle.std.proofs.lemmas.Grind.{flat_map-append}
use Rattle.std.proofs.lemmas.List.{map-append, take_more}
use Rattle.config_load.specs.declared.loaded.RowFiles.{RowFiles}
use Rattle.map_run.specs.Lines.{by_earlier}

-- the lines of one row more, by those before it
pub lines_of_one_more : {A : Type 0} (tell : List RowFiles → RowFiles → List A) (before rows : List RowFiles) (row : RowFiles)
    → by_earlier tell before (rows ++ row ∷ []) ≡ by_earlier tell before rows ++ tell (before ++ rows) row
lines_of_one_more {A} tell before [] row = append-nil (tell before row) ∙ ap (λ (rows : List RowFiles). tell rows row) (sym (append-nil before))
lines_of_one_more {A} tell before (first ∷ rows) row =
    ap (λ (lines : List A). tell before first ++ lines) (lines_of_one_more tell (before ++ first ∷ []) rows row)
    ∙ sym (append_assoc (tell before first) (by_earlier tell (before ++ first ∷ []) rows) (tell ((before ++ first ∷ []) ++ rows) row))
    ∙ ap (λ (all : List RowFiles). (tell before first ++ by_earlier tell (before ++ first ∷ []) rows) ++ tell all row) (append_assoc before (first ∷ []) rows)

-- what a search finds it finds with an item more
pub found_still : {A : Type 0} (test : A → Bool) (xs : List A) (x y : A) → find test xs ≡ Some y → find test (xs ++ x ∷ []) ≡ Some y
found_still test [] x y is = cc
found_still test (first ∷ xs) x y is = by (test first) is (found_still test xs x y) where
  by : (b : Bool) → cond b (Some first) (find test xs) ≡ Some y → (find test xs ≡ Some y → find test (xs ++ x ∷ []) ≡ Some y)
      → cond b (Some first) (find test (xs ++ x ∷ [])) ≡ Some y
  by true is rest = is
  by false is rest = rest is

-- where a search finds nothing it finds the item more, if that passes
pub found_last : {A : Type 0} (test : A → Bool) (xs : List A) (x : A) → find test xs ≡ None → find test (xs ++ x ∷ []) ≡ cond (test x) (Some x) None
found_last test [] x none = refl
found_last test (first ∷ xs) x none = by (test first) none (found_last test xs x) where
  by : (b : Bool) → cond b (Some first) (find test xs) ≡ None → (find test xs ≡ None → find test (xs ++ x ∷ []) ≡ cond (test x) (Some x) None)
      → cond b (Some first) (find test (xs ++ x ∷ [])) ≡ cond (test x) (Some x) None
  by true is rest = cc
  by false is rest = rest is

-- the items up to one and that one
pub next_item : {A : Type 0} (xs : List A) (i : ℕ) (x : A) → i < length xs → x ≡ get_or xs i x → take (i + 1) xs ≡ take i xs ++ x ∷ []
next_item {A} xs i x within is = take_more xs i x within ∙ ap (λ (y : A). take i xs ++ y ∷ []) (sym is)

-- the items behind references up to one and that one
pub next_borrowed : {A : Type 0} (items : List (Bor A)) (i : ℕ) (item : Bor A) → i < length items → item ≡ get_or items i item
    → map (λ (one : Bor A). one.now) (take (i + 1) items) ≡ map (λ (one : Bor A). one.now) (take i items) ++ item.now ∷ []
next_borrowed {A} items i item within is =
    ap (map (λ (one : Bor A). one.now)) (next_item items i item within is) ∙ map-append (λ (one : Bor A). one.now) (take i items) (item ∷ [])

-- what the items up to one and that one give, behind what stood before
pub flat_more : {A B : Type 0} (f : A → List B) (front : List B) (items : List A) (i : ℕ) (item : A) (old new : List B) → i < length items → item ≡ get_or items i item
    → old ≡ front ++ flat_map f (take i items) → new ≡ old ++ f item → new ≡ front ++ flat_map f (take (i + 1) items)
flat_more {A} {B} f front items i item old new within is was more =
    more
    ∙ ap (λ (lines : List B). lines ++ f item) was
    ∙ append_assoc front (flat_map f (take i items)) (f item)
    ∙ ap (λ (lines : List B). front ++ lines)
    (sym (flat_map-append f (take i items) (item ∷ []) ∙ ap (λ (last : List B). flat_map f (take i items) ++ last) (append-nil (f item))))
    ∙ ap (λ (all : List A). front ++ flat_map f all) (sym (next_item items i item within is))

-- the same of what each item behind a reference gives
pub map_more : {A B : Type 0} (f : A → B) (front : List B) (items : List (Bor A)) (i : ℕ) (item : Bor A) (old new : List B) → i < length items → item ≡ get_or items i item
    → old ≡ front ++ map f (map (λ (one : Bor A). one.now) (take i items)) → new ≡ old ++ f item.now ∷ []
    → new ≡ front ++ map f (map (λ (one : Bor A). one.now) (take (i + 1) items))
map_more {A} {B} f front items i item old new within is was more =
    more
    ∙ ap (λ (lines : List B). lines ++ f item.now ∷ []) was
    ∙ append_assoc front (map f (map (λ (one : Bor A). one.now) (take i items))) (f item.now ∷ [])
    ∙ ap (λ (lines : List B). front ++ lines) (sym (map-append f (map (λ (one : Bor A). one.now) (take i items)) (item.now ∷ [])))
    ∙ ap (λ (all : List A). front ++ map f all) (sym (next_borrowed items i item within is))

-- what the items that pass a test give
pub flat_where : {A B : Type 0} (test : A → Bool) (f : A → List B) (items : List A) → flat_map (λ (one : A). cond (test one) (f one) []) items ≡ flat_map f (filter test items)
flat_where {A} {B} test f [] = refl
flat_where {A} {B} test f (first ∷ items) = by (test first) (flat_where test f items) where
  by : (b : Bool) → flat_map (λ (one : A). cond (test one) (f one) []) items ≡ flat_map f (filter test items)
      → cond b (f first) [] ++ flat_map (λ (one : A). cond (test one) (f one) []) items ≡ flat_map f (cond b (first ∷ filter test items) (filter test items))
  by true rest = ap (λ (last : List B). f first ++ last) rest
  by false rest = rest
