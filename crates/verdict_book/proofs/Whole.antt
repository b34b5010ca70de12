-- The list of a whole tree: from the rows of a book, and against more items than it has.
use Rattle.std.proofs.Common.{◌≡◌, ℕ, suc, ◌<◌, ◌≤◌, true, false, List, [], ◌∷◌, ◌++◌, length, map, reverse, Some, slice_get, refl, sym, ◌∙◌, ap, subst, arith, ⊎_elim}
use Rattle.std.specs.Prelude.{All, eqb}
use Rattle.std.specs.List.{list_any, IsDistinct, AllByRecursion}
use Rattle.std.specs.List.Sorted.{IsPermutation, IsSortedByKey}
use Rattle.std.specs.declared.cmp.Ordering.{Ordering}
use Rattle.std.proofs.lemmas.Bool.{ne_eqb, cases_eq}
use Rattle.std.proofs.lemmas.Option.{slice_get_within}
use Rattle.std.proofs.lemmas.List.{append_assoc, map_push, reverse-append, length-map, length-reverse}
use Rattle.std.proofs.lemmas.List.Sorted.{IsPermutation-map, IsPermutation-sym, IsPermutation-trans, IsPermutation-reverse, All-permutation}
use Rattle.std.proofs.lemmas.Map.Steps.{length-le_from_distinct_below}
use Rattle.verdict_book.specs.Items.{NoneTwice, AreReachedItems, ReachesMore}
use Rattle.verdict_book.specs.Lists.{Judges, JudgesState, IsWholeTree}
use Rattle.verdict_book.specs.declared.filed.Filed.{Filed}
use Rattle.verdict_book.specs.declared.row.Row.{Row}
use Rattle.verdict_book.specs.declared.row.TicketState.{TicketState}
use Rattle.verdict_book.specs.declared.row.TicketState.TheVariants.{Issued, Claimed, Filed as FiledState}
use Rattle.verdict_book.proofs.Places.{none_twice_permuted, items_permuted}

-- a state that isn't that of a filed ticket has no verdict
pub not_judged : {I V : Type 0} (verdict_of : I → V) (item : I) (state : TicketState V) → JudgesState verdict_of item state → ((v : V) → state ≡ FiledState v → ⊥) → ⊥
not_judged verdict_of item Issued right none = right
not_judged verdict_of item Claimed right none = right
not_judged verdict_of item (FiledState v) right none = none v refl

-- the last row goes over to the list
pub gone_over : {A B I : Type 0} (f : A → I) (r : B → I) (xs : List A) (y : A) (rest : List B) (row : B) → f y ≡ r row → map f (xs ++ y ∷ []) ++ reverse (map r rest) ≡ map f xs ++ reverse (map r (rest ++ row ∷ []))
gone_over f r xs y rest row same =
    ap (λ l. l ++ reverse (map r rest)) (map_push f xs y)
    ∙ append_assoc (map f xs) (f y ∷ []) (reverse (map r rest))
    ∙ ap (λ v. map f xs ++ (v ∷ reverse (map r rest))) same
    ∙ ap (λ l. map f xs ++ l) (sym (ap reverse (map_push r rest row) ∙ reverse-append (map r rest) (r row ∷ [])))

-- a list with the items of rows, from the last row on, has as many as there are rows
pub listed_many : {W I V : Type 0} (rows : List (Row I V)) (list : List (Filed W I V)) → map (λ (f : Filed W I V). f.item) list ≡ reverse (map (λ (r : Row I V). r.item) rows) → length list ≡ length rows
listed_many {W} {I} {V} rows list items =
    sym (length-map list (λ (f : Filed W I V). f.item)) ∙ ap length items ∙ length-reverse (map (λ (r : Row I V). r.item) rows) ∙ length-map rows (λ (r : Row I V). r.item)

module _ {W I V : Type 0} (cmp : I → I → Ordering) (first : I) (children : I → List I) (verdict_of : I → V) where
  -- rows whose items are the reached ones, listed from the last on and then sorted, give the whole tree
  pub whole_tree : (rows : List (Row I V)) (list list' : List (Filed W I V)) → AreReachedItems first children (map (λ (r : Row I V). r.item) rows) → map (λ (f : Filed W I V). f.item) list ≡ reverse (map (λ (r : Row I V). r.item) rows)
      → All (Judges verdict_of) list → IsPermutation list list' → IsSortedByKey (λ (f : Filed W I V). f.item) cmp list' → IsWholeTree cmp first children verdict_of list'
  whole_tree rows list list' are items verdicts perm sorted =
      let item = λ (f : Filed W I V). f.item in
      let from = map (λ (r : Row I V). r.item) rows in
      let listed = subst (IsPermutation from) (sym items) (IsPermutation-reverse from) in
      let moved = IsPermutation-trans from (map item list) (map item list') listed (IsPermutation-map item list list' perm) in
      let back = IsPermutation-sym from (map item list') moved in
      record {
        reached = record {
          each = λ i. ((λ r. items_permuted from (map item list') moved i ((are.each i).0 r)), λ p. (are.each i).1 (items_permuted (map item list') from back i p));
          once = none_twice_permuted from (map item list') moved are.once;
        };
        sorted = sorted;
        verdicts = All-permutation (Judges verdict_of) list list' perm verdicts;
      }

module _ {I : Type 0} (xs : List I) where
  abbrev Place : I → Type 0
  Place y = (p : ℕ) × (slice_get xs p ≡ Some y)

  -- where the items of a list stand
  abbrev places : (ys : List I) → ((k : ℕ) (y : I) → slice_get ys k ≡ Some y → Place y) → List ℕ
  places [] at = []
  places (y ∷ ys) at = (at 0 y refl).0 ∷ places ys (λ k z h. at (suc k) z h)

  places_len : (ys : List I) (at : (k : ℕ) (y : I) → slice_get ys k ≡ Some y → Place y) → length (places ys at) ≡ length ys
  places_len [] at = refl
  places_len (y ∷ ys) at = ap suc (places_len ys (λ k z h. at (suc k) z h))

  places_low : (ys : List I) (at : (k : ℕ) (y : I) → slice_get ys k ≡ Some y → Place y) (q : ℕ) → list_any (eqb q) (places ys at) ≡ true → q < length xs
  places_low [] at q h = absurd cc
  places_low (y ∷ ys) at q h =
      ⊎_elim
      (λ (e : q ≡ (at 0 y refl).0). let low = slice_get_within xs (at 0 y refl).0 y (at 0 y refl).1 in omega (arith, e, low))
      (λ (n : q ≡ (at 0 y refl).0 → ⊥). places_low ys (λ k z g. at (suc k) z g) q (rw (ne_eqb q (at 0 y refl).0 n) at h))
      (cases_eq q (at 0 y refl).0)

  places_other : (p : ℕ) (y : I) (ys : List I) (at : (k : ℕ) (z : I) → slice_get ys k ≡ Some z → Place z) → slice_get xs p ≡ Some y → ((k : ℕ) → slice_get ys k ≡ Some y → ⊥) → AllByRecursion (λ q. eqb p q ≡ false) (places ys at)
  places_other p y [] at here none = tt
  places_other p y (z ∷ zs) at here none = (
    ne_eqb p (at 0 z refl).0 (λ e. none 0 (sym (at 0 z refl).1 ∙ ap (slice_get xs) (sym e) ∙ here)),
    places_other p y zs (λ k w h. at (suc k) w h) here (λ k h. none (suc k) h),
  )

  places_distinct : (ys : List I) (at : (k : ℕ) (y : I) → slice_get ys k ≡ Some y → Place y) → NoneTwice ys → IsDistinct eqb (places ys at)
  unfolding IsDistinct
  places_distinct [] at once = tt
  places_distinct (y ∷ ys) at once = (
    places_other (at 0 y refl).0 y ys (λ k z h. at (suc k) z h) (at 0 y refl).1 (λ k h. let e : 0 ≡ suc k = once 0 (suc k) y refl h in omega (arith, e)),
    places_distinct ys (λ k z h. at (suc k) z h) (λ a b z ha hb. let e : suc a ≡ suc b = once (suc a) (suc b) z ha hb in omega (arith, e)),
  )

  -- if a list has all reached items, no more items are reached than it has
  pub not_more : (first : I) (children : I → List I) (most : ℕ) → AreReachedItems first children xs → length xs ≤ most → ReachesMore first children most → ⊥
  not_more first children most are few more =
      let at : (k : ℕ) (y : I) → slice_get more.items k ≡ Some y → Place y = λ k y h. (are.each y).0 (more.reached k y h) in
      let low = length-le_from_distinct_below (places more.items at) (length xs) (places_distinct more.items at more.once) (places_low more.items at) in
      let len = places_len more.items at in
      let beyond = more.more in
      omega (arith, low, len, few, beyond)
