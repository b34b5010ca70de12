-- Of equal items the first, item by item, and by the answers whether items are first.
use Rattle.std.proofs.Common.{◌≡◌, ℕ, ◌+◌, ◌<◌, ◌≤◌, Bool, true, false, not, cond, ◌&&◌, List, [], ◌∷◌, ◌++◌, length, drop, get_or, refl, ap, sym, ◌∙◌, add-one, append_assoc}
use Rattle.std.proofs.Math.Seq.{drop-cons}
use Rattle.std.proofs.Math.ListN.{drop_of_length-le}
use Rattle.std.proofs.lemmas.List.{append-nil}
use Rattle.std.specs.List.{list_any, list_all}
use Rattle.dns_data.specs.Distinct.{distinct, distinct_behind}
use Rattle.dns_data.specs.First.{are_first_behind, chosen}

module _ {A : Type 0} (eq : A → A → Bool) (item : A) where
  -- what follows an item that may be the first
  grow : (x : A) (rest more end : List A) (b : Bool) → more ≡ rest ++ end → cond b more (x ∷ more) ≡ cond b rest (x ∷ rest) ++ end
  grow x rest more end true e = e
  grow x rest more end false e = ap (λ l. x ∷ l) e

  -- one item more, which counts unless an equal one stands before it
  distinct_behind-last : (front items : List A) → distinct_behind eq front (items ++ item ∷ []) ≡ distinct_behind eq front items ++ cond (list_any (eq item) (front ++ items)) [] (item ∷ [])
  distinct_behind-last front [] = ap (λ l. cond (list_any (eq item) l) [] (item ∷ [])) (sym (append-nil front))
  distinct_behind-last front (x ∷ items) =
      grow x (distinct_behind eq (front ++ x ∷ []) items) (distinct_behind eq (front ++ x ∷ []) (items ++ item ∷ []))
      (cond (list_any (eq item) (front ++ x ∷ items)) [] (item ∷ [])) (list_any (eq x) front)
      (distinct_behind-last (front ++ x ∷ []) items
      ∙ ap (λ l. distinct_behind eq (front ++ x ∷ []) items ++ cond (list_any (eq item) l) [] (item ∷ [])) (append_assoc front (x ∷ []) items))

  by-last : (kept : List A) (b : Bool) → kept ++ cond b [] (item ∷ []) ≡ cond b kept (kept ++ item ∷ [])
  by-last kept true = append-nil kept
  by-last kept false = refl

  -- with one item more, the distinct items are those before, and the item behind them unless an equal one stands before
  -- it
  pub distinct-last : (before : List A) → distinct eq (before ++ item ∷ []) ≡ cond (list_any (eq item) before) (distinct eq before) (distinct eq before ++ item ∷ [])
  distinct-last before = distinct_behind-last [] before ∙ by-last (distinct eq before) (list_any (eq item) before)

module _ {A : Type 0} (eq : A → A → Bool) where
  -- an item that is first or isn't, and those behind it
  first-or-not : (item : A) (rest kept : List A) (firsts : List Bool) (b : Bool) → chosen rest firsts ≡ kept → chosen (item ∷ rest) (not b ∷ firsts) ≡ cond b kept (item ∷ kept)
  first-or-not item rest kept firsts true e = e
  first-or-not item rest kept firsts false e = ap (λ others. item ∷ others) e

  -- the items that are first are the distinct ones
  pub chosen-first : (before items : List A) → chosen items (are_first_behind eq before items) ≡ distinct_behind eq before items
  chosen-first before [] = refl
  chosen-first before (item ∷ items) =
      first-or-not item items (distinct_behind eq (before ++ item ∷ []) items) (are_first_behind eq (before ++ item ∷ []) items)
      (list_any (eq item) before) (chosen-first (before ++ item ∷ []) items)

  -- an item that is first, and those behind it that are
  all-of : (item : A) (rest kept : List A) (b all : Bool) → (not b && all) ≡ true → (all ≡ true → kept ≡ rest) → cond b kept (item ∷ kept) ≡ item ∷ rest
  all-of item rest kept true all e same = cc
  all-of item rest kept false all e same = ap (λ others. item ∷ others) (same e)

  -- items that are all first are distinct
  pub all-first : (before items : List A) → list_all (λ test. test) (are_first_behind eq before items) ≡ true → distinct_behind eq before items ≡ items
  all-first before [] all = refl
  all-first before (item ∷ items) all =
      all-of item items (distinct_behind eq (before ++ item ∷ []) items) (list_any (eq item) before)
      (list_all (λ test. test) (are_first_behind eq (before ++ item ∷ []) items)) all (all-first (before ++ item ∷ []) items)

-- with no answer left nothing is chosen
nothing : {A : Type 0} (items : List A) → chosen items [] ≡ []
nothing [] = refl
nothing (item ∷ items) = refl

-- behind the last answer no item is chosen
pub chosen-end : {A : Type 0} (items kept : List A) (tests : List Bool) (i : ℕ) → length tests ≤ i → kept ++ chosen items (drop i tests) ≡ kept
chosen-end items kept tests i past =
    ap (λ rest. kept ++ rest) (ap (chosen items) (drop_of_length-le tests past) ∙ nothing items) ∙ append-nil kept

module _ {A : Type 0} (left rest : List A) (tests : List Bool) (i : ℕ) (kept next : List A) (item : A) (test : Bool) where
  -- the next item and its answer
  here : left ≡ item ∷ rest → i < length tests → test ≡ get_or tests i test → chosen left (drop i tests) ≡ chosen (item ∷ rest) (test ∷ drop (i + 1) tests)
  here first below is =
      ap (λ items. chosen items (drop i tests)) first
      ∙ ap (chosen (item ∷ rest)) (drop-cons tests i test below ∙ (λ j. sym is j ∷ drop (sym (add-one i) j) tests))
