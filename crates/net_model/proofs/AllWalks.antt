-- The walks from a state, followed through all their branches: each is a walk by its numbers, none is missing, and they
-- stand in order.
use Rattle.std.proofs.Common.{◌≡◌, ℕ, zero, suc, ◌+◌, ◌<◌, Bool, true, false, List, [], ◌∷◌, ◌++◌, map, length, Contains, AllPairs, Option, Some, None, Ordering, Less, Equal, sym, refl, ap, ◌∙◌, subst, inl, inr, arith, zero-add}
use Rattle.std.specs.Prelude.{◌==◌, slice_get, option_map, option_and_then}
use Rattle.std.specs.List.{AllByRecursion, flat_map}
use Rattle.std.proofs.lemmas.Bool.Decides.{nat_tests}
use Rattle.std.proofs.lemmas.List.{map-append}
use Rattle.std.proofs.lemmas.List.Kept.{AllPairs-cons}
use Rattle.std.proofs.lemmas.Simd.{map-map}
use Rattle.dns_data.specs.Name.{Labels}
use Rattle.std.specs.Option.{option_to_list}
use Rattle.std.specs.Ordering.{nat_cmp, ordering_then}
use Rattle.std.proofs.lemmas.Bool.{eqb-true}
use Rattle.std.proofs.lemmas.List.Elements.{Contains-append_left, Contains-append_right, Contains-append_cases}
use Rattle.dns_data.specs.declared.rr_type.RrType.{RrType}
use Rattle.net_model.specs.declared.walk.State.{State}
use Rattle.net_model.specs.declared.walk.Walk.{Walk}
use Rattle.net_model.specs.Step.{Setting, Branch, Go, End, next, start}
use Rattle.net_model.specs.Walk.{led_on, branched, walk_from, walk_along, path_cmp}
use Rattle.dns_data.proofs.Membership.{none_in_nil, has_first, has_later, first_or_later, map_has, from_map, all_from_contains}

-- a walk with the numbers of its branches
abbrev pub Numbered : Type 0
Numbered = List ℕ × Walk

-- the walks that a branch with a number gives, where those from a state are these
abbrev pub by_branch : (State → List Numbered) → State → ℕ → Branch → List Numbered
by_branch on state number (Go hop to) = map (λ later. (number ∷ later.0, led_on state hop later.1)) (on to)
by_branch on state number (End hop leaf) = (number ∷ [], record { states = state ∷ []; hops = option_to_list hop; leaf = leaf }) ∷ []

-- what items give in turn, counted from a number
abbrev pub in_turn : {X : Type 0} → (ℕ → X → List Numbered) → ℕ → List X → List Numbered
in_turn give first [] = []
in_turn give first (x ∷ xs) = give first x ++ in_turn give (suc first) xs

-- the walks from a state of no more states than so many
abbrev pub all_from : ℕ → Setting → RrType → State → List Numbered
all_from zero setting rtype state = []
all_from (suc depth) setting rtype state = in_turn (by_branch (all_from depth setting rtype) state) 0 (next setting rtype state)

-- the walks of a start state with its number
abbrev pub by_start : (State → List Numbered) → ℕ → State → List Numbered
by_start on number state = map (λ later. (number ∷ later.0, later.1)) (on state)

-- the walks of a query of no more states than so many
abbrev pub all_along : ℕ → Setting → RrType → Labels → List Numbered
all_along depth setting rtype query = in_turn (by_start (all_from depth setting rtype)) 0 (start setting.config query)

-- the walks that a branch of a state gives, without their numbers
abbrev pub walks_by : (State → List Walk) → State → Branch → List Walk
walks_by on state (Go hop to) = map (led_on state hop) (on to)
walks_by on state (End hop leaf) = record { states = state ∷ []; hops = option_to_list hop; leaf = leaf } ∷ []

-- the walks from a state of no more states than so many, without their numbers
abbrev pub walks_within : ℕ → Setting → RrType → State → List Walk
walks_within zero setting rtype state = []
walks_within (suc depth) setting rtype state = flat_map (walks_by (walks_within depth setting rtype) state) (next setting rtype state)

-- a branch leads on to a state of a kind, or ends
abbrev pub LeadsTo : (State → Type 0) → Branch → Type 0
LeadsTo kind (Go hop to) = kind to
LeadsTo kind (End hop leaf) = Unit {0}

-- no walk from a state has more states than so many
abbrev pub Settled : ℕ → Setting → RrType → State → Type 0
Settled zero setting rtype state = ⊥
Settled (suc depth) setting rtype state = AllByRecursion (LeadsTo (Settled depth setting rtype)) (next setting rtype state)

module _ {X : Type 0} (give : ℕ → X → List Numbered) where
  -- what items give is given by one of them, with its number
  from_turn : (first : ℕ) (xs : List X) (y : Numbered) → Contains (in_turn give first xs) y
      → (i : ℕ) × (x : X) × (slice_get xs i ≡ Some x) × Contains (give (first + i) x) y
  from_turn first [] y has = absurd (none_in_nil y has)
  from_turn first (x ∷ xs) y has =
      elim (Contains-append_cases (give first x) (in_turn give (suc first) xs) y has) [
        | inl here ↦ (0, x, refl, subst (λ (n : ℕ). Contains (give n x) y) (let e : first ≡ first + 0 = omega arith in e) here)
        | inr later ↦ (
            let found = from_turn (suc first) xs y later in
            (suc found.0, found.1, found.2, subst (λ (n : ℕ). Contains (give n found.1) y) (let e : suc first + found.0 ≡ first + suc found.0 = omega arith in e) found.3))
      ]

  -- and what one of them gives is given
  turn_has : (first : ℕ) (xs : List X) (i : ℕ) (x : X) (y : Numbered) → slice_get xs i ≡ Some x
      → Contains (give (first + i) x) y → Contains (in_turn give first xs) y
  turn_has first [] i x y is has = cc
  turn_has first (other ∷ xs) zero x y is has =
      let same : other ≡ x = cc in
      Contains-append_left (give first other) (in_turn give (suc first) xs) y
      (subst (λ (n : ℕ). Contains (give n other) y) (let e : first + 0 ≡ first = omega arith in e)
      (subst (λ (z : X). Contains (give (first + 0) z) y) (sym same) has))
  turn_has first (other ∷ xs) (suc i) x y is has =
      Contains-append_right (give first other) (in_turn give (suc first) xs) y
      (turn_has (suc first) xs i x y is
      (subst (λ (n : ℕ). Contains (give n x) y) (let e : first + suc i ≡ suc first + i = omega arith in e) has))

-- what holds of each branch holds of one
one_of : {X : Type 0} (P : X → Type 0) (xs : List X) (i : ℕ) (x : X) → AllByRecursion P xs → slice_get xs i ≡ Some x → P x
one_of P [] i x all is = cc
one_of P (first ∷ xs) zero x all is = let same : first ≡ x = cc in subst P same all.0
one_of P (first ∷ xs) (suc i) x all is = one_of P xs i x all.1 is

module _ (setting : Setting) (rtype : RrType) where
  -- each listed walk from a state is the walk from it by its numbers
  pub all_are : (depth : ℕ) (state : State) (x : Numbered) → Contains (all_from depth setting rtype state) x → walk_from setting rtype x.0 state ≡ Some x.1
  all_are zero state x has = absurd (none_in_nil x has)
  all_are (suc depth) state x has =
      let found = from_turn (by_branch (all_from depth setting rtype) state) 0 (next setting rtype state) x has in
      by found.0 found.1 found.2 (subst (λ (n : ℕ). Contains (by_branch (all_from depth setting rtype) state n found.1) x) (zero-add found.0) found.3) (all_are depth)
    where
      by : (i : ℕ) (branch : Branch) → slice_get (next setting rtype state) i ≡ Some branch → Contains (by_branch (all_from depth setting rtype) state i branch) x
          → ((to : State) (y : Numbered) → Contains (all_from depth setting rtype to) y → walk_from setting rtype y.0 to ≡ Some y.1)
          → walk_from setting rtype x.0 state ≡ Some x.1
      by i (Go hop to) is among rest =
          let found = from_map (λ (later : Numbered). (i ∷ later.0, led_on state hop later.1)) (all_from depth setting rtype to) x among in
          let goes = rest to found.0 found.1 in
          subst (λ (y : Numbered). walk_from setting rtype y.0 state ≡ Some y.1) found.2
          (ap (branched state (length found.0.0 == 0) (walk_from setting rtype found.0.0)) is ∙ ap (option_map (led_on state hop)) goes)
      by i (End hop leaf) is among rest =
          elim (first_or_later (i ∷ [], record { states = state ∷ []; hops = option_to_list hop; leaf = leaf }) [] x among) [
            | inl same ↦ subst (λ (y : Numbered). walk_from setting rtype y.0 state ≡ Some y.1) same
                (ap (branched state true (walk_from setting rtype [])) is)
            | inr none ↦ absurd (none_in_nil x none)
          ]

  -- if no walk from a state has more states than so many, each walk from it is listed with its numbers
  pub none_missing : (depth : ℕ) (state : State) (numbers : List ℕ) (walk : Walk) → Settled depth setting rtype state
      → walk_from setting rtype numbers state ≡ Some walk → Contains (all_from depth setting rtype state) (numbers, walk)
  none_missing zero state numbers walk settled is = absurd settled
  none_missing (suc depth) state [] walk settled is = cc
  none_missing (suc depth) state (number ∷ numbers) walk settled is =
      by (slice_get (next setting rtype state) number) refl (length numbers == 0) refl is (λ to later. none_missing depth to numbers later)
    where
      by : (branch : Option Branch) → slice_get (next setting rtype state) number ≡ branch → (last : Bool) → (length numbers == 0) ≡ last
          → branched state last (walk_from setting rtype numbers) branch ≡ Some walk
          → ((to : State) (later : Walk) → Settled depth setting rtype to → walk_from setting rtype numbers to ≡ Some later → Contains (all_from depth setting rtype to) (numbers, later))
          → Contains (all_from (suc depth) setting rtype state) (number ∷ numbers, walk)
      by None taken last e made rest = cc
      by (Some (Go hop to)) taken last e made rest =
          on (walk_from setting rtype numbers to) refl made
          (λ later goes. rest to later (one_of (LeadsTo (Settled depth setting rtype)) (next setting rtype state) number (Go hop to) settled taken) goes)
        where
          on : (later : Option Walk) → walk_from setting rtype numbers to ≡ later → option_map (led_on state hop) later ≡ Some walk
              → ((w : Walk) → walk_from setting rtype numbers to ≡ Some w → Contains (all_from depth setting rtype to) (numbers, w))
              → Contains (all_from (suc depth) setting rtype state) (number ∷ numbers, walk)
          on None goes made rest = cc
          on (Some later) goes made rest =
              let same : led_on state hop later ≡ walk = cc in
              turn_has (by_branch (all_from depth setting rtype) state) 0 (next setting rtype state) number (Go hop to) (number ∷ numbers, walk) taken
              (subst (λ (n : ℕ). Contains (by_branch (all_from depth setting rtype) state n (Go hop to)) (number ∷ numbers, walk)) (sym (zero-add number))
              (subst (λ (w : Walk). Contains (by_branch (all_from depth setting rtype) state number (Go hop to)) (number ∷ numbers, w)) same
              (map_has (λ (x : Numbered). (number ∷ x.0, led_on state hop x.1)) (all_from depth setting rtype to) (numbers, later) (rest later goes))))
      by (Some (End hop leaf)) taken true e made rest =
          let none : numbers ≡ [] = no_numbers numbers e in
          let same : record { states = state ∷ []; hops = option_to_list hop; leaf = leaf } ≡ walk = cc in
          turn_has (by_branch (all_from depth setting rtype) state) 0 (next setting rtype state) number (End hop leaf) (number ∷ numbers, walk) taken
          (subst (λ (n : ℕ). Contains (by_branch (all_from depth setting rtype) state n (End hop leaf)) (number ∷ numbers, walk)) (sym (zero-add number))
          (subst (λ (ns : List ℕ). Contains (by_branch (all_from depth setting rtype) state number (End hop leaf)) (number ∷ ns, walk)) (sym none)
          (subst (λ (w : Walk). Contains (by_branch (all_from depth setting rtype) state number (End hop leaf)) (number ∷ [], w)) same
          (has_first _ []))))
        where
          no_numbers : (ns : List ℕ) → (length ns == 0) ≡ true → ns ≡ []
          no_numbers [] e = refl
          no_numbers (n ∷ ns) e = let none : length (n ∷ ns) ≡ 0 = eqb-true (length (n ∷ ns)) 0 e in absurd (omega (arith, none))
      by (Some (End hop leaf)) taken false e made rest = cc

  -- ---- the walks of a query

  -- each listed walk of a query is the walk of the query by its numbers
  pub all_along_are : (depth : ℕ) (query : Labels) (x : Numbered) → Contains (all_along depth setting rtype query) x → walk_along setting query rtype x.0 ≡ Some x.1
  all_along_are depth query x has =
      let found = from_turn (by_start (all_from depth setting rtype)) 0 (start setting.config query) x has in
      let here = subst (λ (n : ℕ). Contains (by_start (all_from depth setting rtype) n found.1) x) (zero-add found.0) found.3 in
      let later = from_map (λ (y : Numbered). (found.0 ∷ y.0, y.1)) (all_from depth setting rtype found.1) x here in
      subst (λ (y : Numbered). walk_along setting query rtype y.0 ≡ Some y.1) later.2
      (ap (option_and_then (walk_from setting rtype later.0.0)) found.2 ∙ all_are depth found.1 later.0 later.1)

  -- if no walk of a query has more states than so many, each of its walks is listed with its numbers
  pub none_missing_along : (depth : ℕ) (query : Labels) (numbers : List ℕ) (walk : Walk) → AllByRecursion (Settled depth setting rtype) (start setting.config query)
      → walk_along setting query rtype numbers ≡ Some walk → Contains (all_along depth setting rtype query) (numbers, walk)
  none_missing_along depth query [] walk settled is = cc
  none_missing_along depth query (number ∷ numbers) walk settled is = by (slice_get (start setting.config query) number) refl is where
    by : (begin : Option State) → slice_get (start setting.config query) number ≡ begin
        → option_and_then (walk_from setting rtype numbers) begin ≡ Some walk → Contains (all_along depth setting rtype query) (number ∷ numbers, walk)
    by None taken e = cc
    by (Some state) taken e =
        turn_has (by_start (all_from depth setting rtype)) 0 (start setting.config query) number state (number ∷ numbers, walk) taken
        (subst (λ (n : ℕ). Contains (by_start (all_from depth setting rtype) n state) (number ∷ numbers, walk)) (sym (zero-add number))
        (map_has (λ (y : Numbered). (number ∷ y.0, y.1)) (all_from depth setting rtype state) (numbers, walk)
        (none_missing depth state numbers walk (one_of (Settled depth setting rtype) (start setting.config query) number state settled taken) e)))

-- ---- without numbers

-- a walk without its numbers
abbrev pub walk_of : Numbered → Walk
walk_of x = x.1

module _ (on : State → List Numbered) (on' : State → List Walk) (same : (state : State) → map walk_of (on state) ≡ on' state) (state : State) where
  branch_gives : (number : ℕ) (branch : Branch) → map walk_of (by_branch on state number branch) ≡ walks_by on' state branch
  branch_gives number (Go hop to) =
      map-map walk_of (λ (later : Numbered). (number ∷ later.0, led_on state hop later.1)) (on to)
      ∙ sym (map-map (led_on state hop) walk_of (on to))
      ∙ ap (map (led_on state hop)) (same to)
  branch_gives number (End hop leaf) = refl

  branches_give : (first : ℕ) (branches : List Branch) → map walk_of (in_turn (by_branch on state) first branches) ≡ flat_map (walks_by on' state) branches
  branches_give first [] = refl
  branches_give first (branch ∷ branches) =
      map-append walk_of (by_branch on state first branch) (in_turn (by_branch on state) (suc first) branches)
      ∙ ap (λ (xs : List Walk). xs ++ map walk_of (in_turn (by_branch on state) (suc first) branches)) (branch_gives first branch)
      ∙ ap (λ (xs : List Walk). walks_by on' state branch ++ xs) (branches_give (suc first) branches)

-- the walks from a state listed with numbers are those listed without
pub same_walks : (setting : Setting) (rtype : RrType) (depth : ℕ) (state : State) → map walk_of (all_from depth setting rtype state) ≡ walks_within depth setting rtype state
same_walks setting rtype zero state = refl
same_walks setting rtype (suc depth) state =
    branches_give (all_from depth setting rtype) (walks_within depth setting rtype) (same_walks setting rtype depth) state 0 (next setting rtype state)

starts_give : (setting : Setting) (rtype : RrType) (depth first : ℕ) (states : List State)
    → map walk_of (in_turn (by_start (all_from depth setting rtype)) first states) ≡ flat_map (walks_within depth setting rtype) states
starts_give setting rtype depth first [] = refl
starts_give setting rtype depth first (state ∷ states) =
    map-append walk_of (by_start (all_from depth setting rtype) first state) (in_turn (by_start (all_from depth setting rtype)) (suc first) states)
    ∙ ap (λ (xs : List Walk). xs ++ map walk_of (in_turn (by_start (all_from depth setting rtype)) (suc first) states))
    (map-map walk_of (λ (later : Numbered). (first ∷ later.0, later.1)) (all_from depth setting rtype state) ∙ same_walks setting rtype depth state)
    ∙ ap (λ (xs : List Walk). walks_within depth setting rtype state ++ xs) (starts_give setting rtype depth (suc first) states)

-- the walks of a query listed with numbers are those listed without
pub same_walks_along : (setting : Setting) (rtype : RrType) (depth : ℕ) (query : Labels)
    → map walk_of (all_along depth setting rtype query) ≡ flat_map (walks_within depth setting rtype) (start setting.config query)
same_walks_along setting rtype depth query = starts_give setting rtype depth 0 (start setting.config query)

-- ---- their order

-- each stands before the later ones
abbrev pub Rise : List Numbered → Type 0
Rise [] = Unit {0}
Rise (x ∷ xs) = ((y : Numbered) → Contains xs y → path_cmp x.0 y.0 ≡ Less) × Rise xs

rise_append : (xs ys : List Numbered) → Rise xs → Rise ys → ((x y : Numbered) → Contains xs x → Contains ys y → path_cmp x.0 y.0 ≡ Less) → Rise (xs ++ ys)
rise_append [] ys one other across = other
rise_append (x ∷ xs) ys one other across = (
  λ y has. elim (Contains-append_cases xs ys y has) [ inl here ↦ one.0 y here | inr there ↦ across x y (has_first x xs) there ],
  rise_append xs ys one.1 other (λ z y here there. across z y (has_later x xs z here) there),
)

-- a number before two lists doesn't change how they stand, and a smaller number stands before a greater one
under_number : (number : ℕ) (a b : List ℕ) → path_cmp (number ∷ a) (number ∷ b) ≡ path_cmp a b
under_number number a b = ap (λ (o : Ordering). ordering_then o (path_cmp a b)) (let e : nat_cmp number number ≡ Equal = grind (arith, nat_tests) in e)

smaller_number : (m n : ℕ) (a b : List ℕ) → m < n → path_cmp (m ∷ a) (n ∷ b) ≡ Less
smaller_number m n a b less = ap (λ (o : Ordering). ordering_then o (path_cmp a b)) (let e : nat_cmp m n ≡ Less = grind (arith, nat_tests) in e)

rise_map : (number : ℕ) (f : Walk → Walk) (xs : List Numbered) → Rise xs → Rise (map (λ x. (number ∷ x.0, f x.1)) xs)
rise_map number f [] rise = tt
rise_map number f (x ∷ xs) rise = (
  λ y has. let found = from_map (λ (z : Numbered). (number ∷ z.0, f z.1)) xs y has in
      subst (λ (z : Numbered). path_cmp (number ∷ x.0) z.0 ≡ Less) found.2 (under_number number x.0 found.0.0 ∙ rise.0 found.0 found.1),
  rise_map number f xs rise.1,
)

module _ {X : Type 0} (give : ℕ → X → List Numbered) (rises : (number : ℕ) (x : X) → Rise (give number x))
    (heads : (number : ℕ) (x : X) (y : Numbered) → Contains (give number x) y → (rest : List ℕ) × (y.0 ≡ number ∷ rest)) where
  turn_rises : (first : ℕ) (xs : List X) → Rise (in_turn give first xs)
  turn_rises first [] = tt
  turn_rises first (x ∷ xs) =
      rise_append (give first x) (in_turn give (suc first) xs) (rises first x) (turn_rises (suc first) xs)
      (λ y z here there.
      let one = heads first x y here in
      let found = from_turn give (suc first) xs z there in
      let other = heads (suc first + found.0) found.1 z found.3 in
      rw (one.1, other.1) (smaller_number first (suc first + found.0) one.0 other.0 (omega arith)))

branch_heads : (on : State → List Numbered) (state : State) (number : ℕ) (branch : Branch) (y : Numbered)
    → Contains (by_branch on state number branch) y → (rest : List ℕ) × (y.0 ≡ number ∷ rest)
branch_heads on state number (Go hop to) y has =
    let found = from_map (λ (later : Numbered). (number ∷ later.0, led_on state hop later.1)) (on to) y has in
    (found.0.0, ap (λ (z : Numbered). z.0) (sym found.2))
branch_heads on state number (End hop leaf) y has =
    elim (first_or_later (number ∷ [], record { states = state ∷ []; hops = option_to_list hop; leaf = leaf }) [] y has) [
      | inl same ↦ ([], ap (λ (z : Numbered). z.0) (sym same))
      | inr none ↦ absurd (none_in_nil y none)
    ]

branch_rises : (on : State → List Numbered) → ((state : State) → Rise (on state)) → (state : State) (number : ℕ) (branch : Branch) → Rise (by_branch on state number branch)
branch_rises on rise state number (Go hop to) = rise_map number (led_on state hop) (on to) (rise to)
branch_rises on rise state number (End hop leaf) = ((λ y has. absurd (none_in_nil y has)), tt)

-- the walks from a state are listed in the order of their numbers
pub from_rises : (setting : Setting) (rtype : RrType) (depth : ℕ) (state : State) → Rise (all_from depth setting rtype state)
from_rises setting rtype zero state = tt
from_rises setting rtype (suc depth) state =
    turn_rises (by_branch (all_from depth setting rtype) state)
    (branch_rises (all_from depth setting rtype) (from_rises setting rtype depth) state) (branch_heads (all_from depth setting rtype) state)
    0 (next setting rtype state)

along_rises : (setting : Setting) (rtype : RrType) (depth : ℕ) (query : Labels) → Rise (all_along depth setting rtype query)
along_rises setting rtype depth query =
    turn_rises (by_start (all_from depth setting rtype))
    (λ number state. rise_map number (λ walk. walk) (all_from depth setting rtype state) (from_rises setting rtype depth state))
    (λ number state y has.
    let found = from_map (λ (later : Numbered). (number ∷ later.0, later.1)) (all_from depth setting rtype state) y has in
    (found.0.0, ap (λ (z : Numbered). z.0) (sym found.2)))
    0 (start setting.config query)

-- each pair stands in order
pub pairs_rise : (xs : List Numbered) → Rise xs → AllPairs (λ (a b : Numbered). path_cmp a.0 b.0 ≡ Less) xs
pairs_rise [] rise = λ i j d before within. absurd (omega arith)
pairs_rise (x ∷ xs) rise =
    AllPairs-cons (λ (a b : Numbered). path_cmp a.0 b.0 ≡ Less) x xs (all_from_contains (λ (y : Numbered). path_cmp x.0 y.0 ≡ Less) xs rise.0) (pairs_rise xs rise.1)

-- the walks of a query are listed in the order of their numbers
pub along_ordered : (setting : Setting) (rtype : RrType) (depth : ℕ) (query : Labels)
    → AllPairs (λ (a b : Numbered). path_cmp a.0 b.0 ≡ Less) (all_along depth setting rtype query)
along_ordered setting rtype depth query = pairs_rise (all_along depth setting rtype query) (along_rises setting rtype depth query)
