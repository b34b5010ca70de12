-- The pairs of listed states with the types that reach them: how many they are, and that they differ.
use Rattle.std.proofs.Common.{◌≡◌, ◌≢◌, ℕ, zero, suc, ◌+◌, ◌*◌, ◌<◌, ◌≤◌, Bool, true, List, [], ◌∷◌, ◌++◌, map, length, Some, refl, sym, ap, ◌∙◌, subst, inl, inr, length-append, filter, arith}
use Rattle.std.specs.Prelude.{AllPairs, Contains, slice_get}
use Rattle.std.proofs.lemmas.List.Elements.{Contains-append_cases, Contains-append_left, Contains-append_right}
use Rattle.dns_data.specs.RrType.{types}
use Rattle.dns_data.specs.TypeSet.{has_bit}
use Rattle.dns_data.specs.declared.rr_type.RrType.{RrType}
use Rattle.dns_data.proofs.Membership.{along, filter_has, from_filter, from_map, map_has, none_in_nil, pairs_first, pairs_rest}
use Rattle.dns_data.proofs.Sets.{bit_of}
use Rattle.net_model.specs.Tree.{HasMoreThan}
use Rattle.net_model.specs.declared.walk.State.{State}
use Rattle.graph_form.specs.Graph.{arm_pairs}
use Rattle.graph_form.proofs.Places.{item_there, pairs_joined}
use Rattle.graph_form.proofs.Reached.{Differ, arm_differs, every_type}
use Rattle.interp_graph.specs.Listed.{but_cname, every}
use Rattle.interp_graph.specs.Making.{firsts_behind, typed, typed_now}

-- the pairs of a state with these types
abbrev row : (RrType → Bool) → State → List (State × RrType)
row among state = arm_pairs state (record { types = map among types; branches = [] })

row_has : (among : RrType → Bool) (state : State) (rtype : RrType) → among rtype ≡ true → Contains (row among state) (state, rtype)
row_has among state rtype is =
    let make : RrType → State × RrType = λ t. (state, t) in
    map_has make (filter (has_bit (map among types)) types) rtype (filter_has (has_bit (map among types)) types rtype (every_type rtype) (bit_of among rtype ∙ is))

from_row_of : (among : RrType → Bool) (state : State) (pair : State × RrType) → Contains (row among state) pair → (state ≡ pair.0) × (among pair.1 ≡ true)
from_row_of among state pair has =
    let make : RrType → State × RrType = λ t. (state, t) in
    let (rtype, of, same) = from_map make (filter (has_bit (map among types)) types) pair has in (
      ap (λ (p : State × RrType). p.0) same,
      ap among (sym (ap (λ (p : State × RrType). p.1) same)) ∙ (sym (bit_of among rtype) ∙ (from_filter (has_bit (map among types)) types rtype of).1),
    )

-- the pairs of states: of so many first ones with all types, and of the others with all but CNAME
abbrev pub pairs_listed : ℕ → List State → List (State × RrType)
pairs_listed first [] = []
pairs_listed first (state ∷ states) = row (typed_now first) state ++ pairs_listed (firsts_behind first) states

-- they are eleven for each state, and one more for each of the first ones
pub many_listed : (first : ℕ) (states : List State) → first ≤ length states → length (pairs_listed first states) ≡ 11 * length states + first
many_listed zero [] few = omega arith
many_listed (suc first) [] few = absurd (omega (arith, few))
many_listed zero (state ∷ states) few =
    omega (arith, length-append (row but_cname state) (pairs_listed zero states), eleven, many_listed zero states (omega arith))
  where
    eleven : length (row but_cname state) ≡ 11
    eleven = refl
many_listed (suc first) (state ∷ states) few =
    omega (arith, length-append (row every state) (pairs_listed first states), twelve, many_listed first states (omega (arith, few)))
  where
    twelve : length (row every state) ≡ 12
    twelve = refl

-- a state has its pair with each type that reaches it
pub listed_has : (first : ℕ) (states : List State) (at : ℕ) (state : State) (rtype : RrType) → slice_get states at ≡ Some state → typed first at rtype ≡ true
    → Contains (pairs_listed first states) (state, rtype)
listed_has first [] at state rtype is reaches = cc
listed_has first (s ∷ states) zero state rtype is reaches =
    let same : s ≡ state = cc in
    Contains-append_left (row (typed_now first) s) (pairs_listed (firsts_behind first) states) (state, rtype)
    (subst (λ (one : State). Contains (row (typed_now first) s) (one, rtype)) same (row_has (typed_now first) s rtype reaches))
listed_has first (s ∷ states) (suc at) state rtype is reaches =
    Contains-append_right (row (typed_now first) s) (pairs_listed (firsts_behind first) states) (state, rtype) (listed_has (firsts_behind first) states at state rtype is reaches)

-- and there are no other pairs
pub from_listed : (first : ℕ) (states : List State) (pair : State × RrType) → Contains (pairs_listed first states) pair
    → (at : ℕ) × (slice_get states at ≡ Some pair.0) × (typed first at pair.1 ≡ true)
from_listed first [] pair has = absurd (none_in_nil pair has)
from_listed first (s ∷ states) pair has =
    elim (Contains-append_cases (row (typed_now first) s) (pairs_listed (firsts_behind first) states) pair has) [
      | inl here ↦ (let of = from_row_of (typed_now first) s pair here in (0, ap Some of.0, of.1))
      | inr behind ↦ (let of = from_listed (firsts_behind first) states pair behind in (suc of.0, of.1, of.2))
    ]

-- no pair stands twice, if no two states are equal
pub listed_differ : (first : ℕ) (states : List State) → AllPairs (λ a b. a ≢ b) states → AllPairs Differ (pairs_listed first states)
listed_differ first [] once = λ i j d before within. absurd (omega arith)
listed_differ first (state ∷ states) once =
    pairs_joined Differ (row (typed_now first) state) (pairs_listed (firsts_behind first) states) (arm_differs state (record { types = map (typed_now first) types; branches = [] }))
    (listed_differ (firsts_behind first) states (pairs_rest (λ a b. a ≢ b) state states once))
    (λ y z here there same.
    let of = from_listed (firsts_behind first) states z there in
    pairs_first (λ a b. a ≢ b) state states once z.0 (item_there states of.0 z.0 of.1)
    ((from_row_of (typed_now first) state y here).0 ∙ ap (λ (p : State × RrType). p.0) same))

-- if each state comes with each type that reaches it, so many pairs do
pub many_come : (P : State × RrType → Type 0) (first limit : ℕ) (states : List State) → first ≤ length states → AllPairs (λ a b. a ≢ b) states
    → limit < 11 * length states + first
    → ((at : ℕ) (state : State) (rtype : RrType) → slice_get states at ≡ Some state → typed first at rtype ≡ true → P (state, rtype)) → HasMoreThan P limit
many_come P first limit states few once more come =
    record {
      items = pairs_listed first states;
      more = omega (arith, many_listed first states few, more);
      differ = listed_differ first states once;
      each = along P (pairs_listed first states) (λ pair has. let of = from_listed first states pair has in come of.0 pair.0 pair.1 of.1 of.2);
    }
