-- A list put in order by the places of its elements: what places and ranks say of each other, and what an exchange does.
use Rattle.std.proofs.Common.{◌≡◌, ℕ, zero, suc, ◌+◌, ◌<◌, ◌≤◌, ◌==◌, Bool, true, false, cond, List, [], ◌∷◌, ◌++◌, length, set, get_or, map-id, Option, Some, None, slice_get, Bor, refl, sym, ◌∙◌, ap, subst, arith, ⊎_elim}
use Rattle.std.specs.Prelude.{All}
use Rattle.std.specs.List.{range_with_len, swap}
use Rattle.std.specs.List.Sorted.{IsPermutation, IsSorted, IsSortedByKey}
use Rattle.std.specs.Option.{option_cmp, option_copied}
use Rattle.std.specs.Ordering.{is_lt}
use Rattle.std.specs.Slice.{IsItemAt}
use Rattle.std.specs.declared.cmp.Ordering.{Ordering}
use Rattle.std.proofs.lemmas.Bool.{cases_lt, ne_eqb, eq-eqb}
use Rattle.std.proofs.lemmas.Option.{slice_get_within, slice_get-get_or, slice_get_past, get_or_from_slice_get, slice_get_cases}
use Rattle.std.proofs.lemmas.List.{length-set, get_or-set_other}
use Rattle.std.proofs.lemmas.List.FromFn.{length-range_with_len, get_or-range_with_len, map-range_with_len_more}
use Rattle.std.proofs.lemmas.List.Sorted.{IsPermutation-refl, IsPermutation-sym, IsPermutation-swap, IsPermutation-trans, All-permutation, length_permutation}
use Rattle.pool_core.proofs.Lists.{slice_get-set_same, slice_get-set_other}
use Rattle.verdict_book.specs.Items.{NoneTwice}
use Rattle.verdict_book.specs.Ranks.{ArePermutedPlaces, AreRanks}
use Rattle.verdict_book.proofs.Places.{moved, moved_back, get_swap, none_twice_permuted, items_permuted, one_value, some_same}

-- at each place of the rising places stands the place itself
rising_at : (count k place : ℕ) → slice_get (range_with_len 0 count) k ≡ Some place → (place ≡ k) × (k < count)
rising_at count k place at =
    let low = slice_get_within (range_with_len 0 count) k place at in
    let within : k < count = omega (arith, low, length-range_with_len 0 count) in
    let got = get_or_from_slice_get (range_with_len 0 count) k place 0 at in
    let is = get_or-range_with_len 0 count k 0 within in
    (omega (arith, got, is), within)

-- each place stands among the rising ones
rising_has : (count place : ℕ) → place < count → slice_get (range_with_len 0 count) place ≡ Some place
rising_has count place low =
    let is : get_or (range_with_len 0 count) place 0 ≡ place = let e = get_or-range_with_len 0 count place 0 low in omega (arith, e) in
    slice_get-get_or (range_with_len 0 count) place 0 (omega (arith, low, length-range_with_len 0 count)) ∙ ap Some is

-- the rising places with one more are the places before, and the new one behind them
pub rising_more : (count : ℕ) → range_with_len 0 (count + 1) ≡ range_with_len 0 count ++ count ∷ []
rising_more count =
    sym (map-id (range_with_len 0 (count + 1)))
    ∙ map-range_with_len_more (λ (place : ℕ). place) 0 count count (omega arith)
    ∙ ap (λ (l : List ℕ). l ++ count ∷ []) (map-id (range_with_len 0 count))

-- elements that are lent compare as themselves
pub lent_alike : {T : Type 0} (cmp : T → T → Ordering) (one other : Option (Bor T)) → option_cmp (λ (x y : Bor T). cmp x.now y.now) one other ≡ option_cmp cmp (option_copied one) (option_copied other)
lent_alike cmp None None = refl
lent_alike cmp None (Some y) = refl
lent_alike cmp (Some x) None = refl
lent_alike cmp (Some x) (Some y) = refl

-- what a look-up lends is the element at the place
pub lent_at : {T : Type 0} (items : List T) (place : ℕ) (lent : Option (Bor T)) → IsItemAt items place lent → option_copied lent ≡ slice_get items place
lent_at items place None lends = sym (slice_get_past items place lends.3)
lent_at items place (Some x) lends = ap Some lends.1 ∙ sym (slice_get-get_or items place x.now lends.3.0)

module _ (count : ℕ) (places : List ℕ) (all : ArePermutedPlaces count places) where
  -- all places are as many as the elements
  pub places_many : length places ≡ count
  places_many = length_permutation (range_with_len 0 count) places all ∙ length-range_with_len 0 count

  -- no place stands twice among all places
  pub places_once : NoneTwice places
  places_once =
      none_twice_permuted (range_with_len 0 count) places all (λ a b place at at'.
      let one = (rising_at count a place at).0 in
      let other = (rising_at count b place at').0 in
      omega (arith, one, other))

  -- each of all places is one of the list
  pub place_below : (k place : ℕ) → slice_get places k ≡ Some place → place < count
  place_below k place at =
      let back = items_permuted places (range_with_len 0 count) (IsPermutation-sym (range_with_len 0 count) places all) place (k, at) in
      let is = rising_at count back.0 place back.1 in
      omega (arith, is.0, is.1)

  module _ (ranks : List ℕ) (are : AreRanks places ranks) where
    -- a place stands among the places where its rank says
    pub place_of : (place rank : ℕ) → slice_get ranks place ≡ Some rank → slice_get places rank ≡ Some place
    place_of place rank at =
        let within = slice_get_within ranks place rank at in
        let low : place < count = omega (arith, within, are.many, places_many) in
        let there = items_permuted (range_with_len 0 count) places all place (place, rising_has count place low) in
        let same : there.0 ≡ rank = one_value ranks place there.0 rank (are.each there.0 place there.1) at in
        subst (λ k. slice_get places k ≡ Some place) same there.1

    -- no two places have one rank
    pub ranks_once : NoneTwice ranks
    ranks_once a b rank at at' = one_value places rank a b (place_of a rank at) (place_of b rank at')

    -- each rank is below the number of elements
    pub ranks_below : All (λ rank. rank < count) ranks
    ranks_below k d low =
        let within = slice_get_within places (get_or ranks k d) k (place_of k (get_or ranks k d) (slice_get-get_or ranks k d low)) in
        omega (arith, within, places_many)

module _ {T : Type 0} (cmp : T → T → Ordering) (items items' : List T) (places ranks : List ℕ) where
  -- elements that stand where the ranks of sorted places say are sorted
  pub sorted_by_ranks : ArePermutedPlaces (length items) places → AreRanks places ranks → IsSortedByKey (slice_get items) (option_cmp cmp) places
      → ((place rank : ℕ) → slice_get ranks place ≡ Some rank → slice_get items' rank ≡ slice_get items place) → length items' ≡ length items → IsSorted cmp items'
  sorted_by_ranks all are sorted each len k d low high =
      let many = places_many (length items) places all in
      let next_low : k + 1 < length places = omega (arith, high, len, many) in
      let p = get_or places k 0 in
      let q = get_or places (k + 1) 0 in
      let here : slice_get items p ≡ Some (get_or items' k d) = sym (each p k (are.each k p (slice_get-get_or places k 0 (omega (arith, next_low))))) ∙ slice_get-get_or items' k d (omega (arith, high)) in
      let next : slice_get items q ≡ Some (get_or items' (k + 1) d) = sym (each q (k + 1) (are.each (k + 1) q (slice_get-get_or places (k + 1) 0 next_low))) ∙ slice_get-get_or items' (k + 1) d high in
      let said : is_lt (option_cmp cmp (slice_get items q) (slice_get items p)) ≡ false = sorted k 0 low next_low in
      subst (λ o. is_lt (option_cmp cmp o (Some (get_or items' k d))) ≡ false) next (subst (λ o. is_lt (option_cmp cmp (slice_get items q) o) ≡ false) here said)

-- a rank that is written at its place, after those of the places before it, is one more of the ranks
pub rank_written : (places ranks : List ℕ) (rank place : ℕ) → NoneTwice places → slice_get places rank ≡ Some place → place < length ranks
    → ((k p : ℕ) → k < rank → slice_get places k ≡ Some p → slice_get ranks p ≡ Some k)
    → (k p : ℕ) → k < rank + 1 → slice_get places k ≡ Some p → slice_get (set ranks place rank) p ≡ Some k
rank_written places ranks rank place once here within before k p low at =
    ⊎_elim
    (λ (less : k < rank).
    let apart : p ≡ place → ⊥ = λ e. let same : k ≡ rank = once k rank place (at ∙ ap Some e) here in omega (arith, same, less) in
    slice_get-set_other ranks place p rank apart ∙ before k p less at)
    (λ (past : rank ≤ k).
    let e : k ≡ rank = omega (arith, low, past) in
    let same : p ≡ place = one_value places rank p place (subst (λ n. slice_get places n ≡ Some p) e at) here in
    subst (λ n. slice_get (set ranks place rank) n ≡ Some k) (sym same) (slice_get-set_same ranks place rank within ∙ ap Some (sym e)))
    (cases_lt k rank)

-- one for a rank that stands at another place, none for one at its own
abbrev pub off : ℕ → ℕ → ℕ
off place rank = cond (rank == place) 0 1

-- how many ranks stand at other places than their own, where the first of them stands at this place
abbrev pub misplaced : ℕ → List ℕ → ℕ
misplaced place [] = 0
misplaced place (rank ∷ ranks) = off place rank + misplaced (suc place) ranks

misplaced_set : (first i place rank d : ℕ) (ranks : List ℕ) → first + i ≡ place → i < length ranks → misplaced first (set ranks i rank) + off place (get_or ranks i d) ≡ misplaced first ranks + off place rank
misplaced_set first i place rank d [] e low = absurd (omega (arith, low))
misplaced_set first zero place rank d (r ∷ ranks) e low =
    let same : first ≡ place = omega (arith, e) in
    subst (λ n. (off first rank + misplaced (suc first) ranks) + off n r ≡ (off first r + misplaced (suc first) ranks) + off n rank) same (omega arith)
misplaced_set first (suc i) place rank d (r ∷ ranks) e low =
    let rest = misplaced_set (suc first) i place rank d ranks (omega (arith, e)) (omega (arith, low)) in
    omega (arith, rest)

off_few : (b : Bool) → cond b 0 1 ≤ 1
off_few true = omega arith
off_few false = omega arith

-- an exchange that brings a rank to its place leaves fewer misplaced ones
fewer_misplaced : (ranks : List ℕ) (place rank : ℕ) → slice_get ranks place ≡ Some rank → (place ≡ rank → ⊥) → rank < length ranks → NoneTwice ranks
    → misplaced 0 (swap ranks place rank) < misplaced 0 ranks
fewer_misplaced [] place rank at apart low once = absurd (omega (arith, low))
fewer_misplaced (d ∷ rest) place rank at apart low once =
    let ranks : List ℕ = d ∷ rest in
    let here : ℕ = get_or ranks place d in
    let there : ℕ = get_or ranks rank d in
    let first : List ℕ = set ranks place there in
    let here_is : here ≡ rank = get_or_from_slice_get ranks place rank d at in
    let there_not : there ≡ rank → ⊥ = λ e. apart (once place rank rank at (slice_get-get_or ranks rank d low ∙ ap Some e)) in
    let stays : get_or first rank d ≡ there = get_or-set_other ranks place rank there d (λ e. apart (sym e)) in
    let one : misplaced 0 first + off place here ≡ misplaced 0 ranks + off place there = misplaced_set 0 place place there d ranks (omega arith) (slice_get_within ranks place rank at) in
    let two : misplaced 0 (set first rank here) + off rank (get_or first rank d) ≡ misplaced 0 first + off rank here = misplaced_set 0 rank rank here d first (omega arith) (omega (arith, low, length-set ranks place there)) in
    let was : off place here ≡ 1 = ap (off place) here_is ∙ rw (ne_eqb rank place (λ e. apart (sym e))) refl in
    let was_there : off rank (get_or first rank d) ≡ 1 = ap (off rank) stays ∙ rw (ne_eqb there rank there_not) refl in
    let is : off rank here ≡ 0 = ap (off rank) here_is ∙ rw (eq-eqb rank rank refl) refl in
    let few : off place there ≤ 1 = off_few (there == place) in
    let less : misplaced 0 (set first rank here) < misplaced 0 ranks = omega (arith, one, two, was, was_there, is, few) in
    less

-- the ranks before the place stay at their own places, as it gets the rank of another
before_stay : (ranks : List ℕ) (place rank : ℕ) → slice_get ranks place ≡ Some rank → (place ≡ rank → ⊥) → rank < length ranks → NoneTwice ranks
    → ((k : ℕ) → k < place → slice_get ranks k ≡ Some k) → (k : ℕ) → k < place → slice_get (swap ranks place rank) k ≡ Some k
before_stay ranks place rank at apart high once before k low =
    let not_place : k ≡ place → ⊥ = λ e. omega (arith, e, low) in
    let not_rank : k ≡ rank → ⊥ = λ e. not_place (once k place rank (before k low ∙ ap Some e) at) in
    let same : moved place rank k ≡ k = rw (ne_eqb k rank not_rank, ne_eqb k place not_place) refl in
    get_swap ranks place rank k (slice_get_within ranks place rank at) high ∙ ap (slice_get ranks) same ∙ before k low

-- the ranks up to the place stand at their own places, as those before it and its own do
before_passed : (ranks : List ℕ) (place : ℕ) → slice_get ranks place ≡ Some place
    → ((k : ℕ) → k < place → slice_get ranks k ≡ Some k) → (k : ℕ) → k < place + 1 → slice_get ranks k ≡ Some k
before_passed ranks place here before k low =
    ⊎_elim
    (λ (less : k < place). before k less)
    (λ (past : place ≤ k). let e : place ≡ k = omega (arith, low, past) in subst (λ n. slice_get ranks n ≡ Some n) e here)
    (cases_lt k place)

-- each element of the first list stands in the second one, with the rank that it has there
abbrev pub KeepPairs : {T : Type 0} → List T → List ℕ → List T → List ℕ → Type 0
KeepPairs {T} items ranks items' ranks' =
    (k : ℕ) (x : T) (rank : ℕ) → slice_get items k ≡ Some x → slice_get ranks k ≡ Some rank
    → (at : ℕ) × (slice_get items' at ≡ Some x) × (slice_get ranks' at ≡ Some rank)

-- elements and their ranks after some exchanges, when the ranks before the place stand at their own places
pub record IsPutting {T : Type 0} (items : List T) (ranks : List ℕ) (items' : List T) (ranks' : List ℕ) (place : ℕ) : Type 0 where
  pub many : length ranks' ≡ length items'
  pub same : IsPermutation items items'
  pub pairs : KeepPairs items ranks items' ranks'
  pub below : All (λ rank. rank < length items') ranks'
  pub once : NoneTwice ranks'
  pub before : (k : ℕ) → k < place → slice_get ranks' k ≡ Some k

module _ {T : Type 0} (items : List T) (ranks : List ℕ) where
  -- before any exchange each element has its rank, and none is put
  pub putting_begins : length ranks ≡ length items → All (λ rank. rank < length items) ranks → NoneTwice ranks → IsPutting items ranks items ranks 0
  putting_begins many below once = record {
    many = many;
    same = IsPermutation-refl items;
    pairs = λ k x rank at has. (k, at, has);
    below = below;
    once = once;
    before = λ k low. absurd (omega (arith, low));
  }

  module _ (items' : List T) (ranks' : List ℕ) (place : ℕ) (so : IsPutting items ranks items' ranks' place) where
    module _ (inside : place < length ranks') where
      here : slice_get ranks' place ≡ Some (get_or ranks' place 0)
      here = slice_get-get_or ranks' place 0 inside

      -- the rank that stands at the place is one of the places
      pub rank_inside : get_or ranks' place 0 < length items'
      rank_inside = so.below place 0 inside

      -- a place at which its own rank stands is passed
      pub putting_passed : get_or ranks' place 0 ≡ place → IsPutting items ranks items' ranks' (place + 1)
      putting_passed is = record {
        many = so.many;
        same = so.same;
        pairs = so.pairs;
        below = so.below;
        once = so.once;
        before = before_passed ranks' place (here ∙ ap Some is) so.before;
      }

      -- where another rank stands there, an exchange with its place is one exchange more
      pub putting_exchanged : (get_or ranks' place 0 ≡ place → ⊥) → (new : List T) (new_ranks : List ℕ) → new ≡ swap items' place (get_or ranks' place 0) → new_ranks ≡ swap ranks' place (get_or ranks' place 0)
          → IsPutting items ranks new new_ranks place
      putting_exchanged apart new new_ranks new_is ranks_are =
          let rank : ℕ = get_or ranks' place 0 in
          let low : place < length items' = omega (arith, inside, so.many) in
          let high : rank < length ranks' = omega (arith, rank_inside, so.many) in
          let moves : IsPermutation items' new = IsPermutation-swap items' new place rank low rank_inside new_is in
          let rank_moves : IsPermutation ranks' new_ranks = IsPermutation-swap ranks' new_ranks place rank inside high ranks_are in
          let many : length new ≡ length items' = length_permutation items' new moves in
          let many' : length new_ranks ≡ length ranks' = length_permutation ranks' new_ranks rank_moves in
          record {
            many = omega (arith, many, many', so.many);
            same = IsPermutation-trans items items' new so.same moves;
            pairs = λ k x r at has.
                let old = so.pairs k x r at has in
                let back = moved_back place rank old.0 in (
                  moved place rank old.0,
                  ap (λ l. slice_get l (moved place rank old.0)) new_is ∙ get_swap items' place rank (moved place rank old.0) low rank_inside ∙ ap (slice_get items') back ∙ old.1,
                  ap (λ l. slice_get l (moved place rank old.0)) ranks_are ∙ get_swap ranks' place rank (moved place rank old.0) inside high ∙ ap (slice_get ranks') back ∙ old.2,
                );
            below = subst (λ n. All (λ r. r < n) new_ranks) (sym many) (All-permutation (λ r. r < length items') ranks' new_ranks rank_moves so.below);
            once = none_twice_permuted ranks' new_ranks rank_moves so.once;
            before = λ k less. ap (λ l. slice_get l k) ranks_are ∙ before_stay ranks' place rank here (λ e. apart (sym e)) high so.once so.before k less;
          }

      -- an exchange leaves fewer ranks misplaced
      pub putting_fewer : (get_or ranks' place 0 ≡ place → ⊥) → (new_ranks : List ℕ) → new_ranks ≡ swap ranks' place (get_or ranks' place 0) → misplaced 0 new_ranks < misplaced 0 ranks'
      putting_fewer apart new_ranks ranks_are =
          let rank : ℕ = get_or ranks' place 0 in
          subst (λ l. misplaced 0 l < misplaced 0 ranks') (sym ranks_are)
          (fewer_misplaced ranks' place rank here (λ e. apart (sym e)) (omega (arith, rank_inside, so.many)) so.once)

    -- when all places are passed, each element stands at its rank
    pub putting_ends : length ranks ≡ length items → length ranks' ≤ place → (from rank : ℕ) → slice_get ranks from ≡ Some rank → slice_get items' rank ≡ slice_get items from
    putting_ends many past from rank has =
        let low = slice_get_within ranks from rank has in
        ⊎_elim
        (λ there.
        let now = so.pairs from there.0 rank there.2 has in
        let inside = slice_get_within ranks' now.0 rank now.2 in
        let same : now.0 ≡ rank = some_same now.0 rank (sym (so.before now.0 (omega (arith, inside, past))) ∙ now.2) in
        ap (slice_get items') (sym same) ∙ now.1 ∙ sym there.2)
        (λ out. absurd (omega (arith, low, many, out.0)))
        (slice_get_cases items from).1
