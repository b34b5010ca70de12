-- The labels below a live set, each with what is live there.
use Rattle.std.proofs.Common.{◌≡◌, ◌∙◌, ℕ, ◌<◌, List, [], ◌∷◌, ◌++◌, length, map, get_or, All, Contains, refl, sym, arith}
use Rattle.std.specs.Prelude.{◌↔◌}
use Rattle.std.proofs.lemmas.List.{map-append}
use Rattle.dns_data.specs.Name.{Labels, AreInOrder}
use Rattle.dns_data.proofs.Membership.{all_from_contains}
use Rattle.label_graph.specs.declared.next.NextName.{NextName}
use Rattle.label_graph.specs.declared.pair.Pair.{Pair}
use Rattle.label_graph.specs.Graphs.{SomeItem, IsGraph, IsLiveBelow}
use Rattle.label_graph.specs.LiveSet.{IsLiveSet, name_at}
use Rattle.name_table.specs.Table.{IsNextBelow}
use Rattle.label_graph.specs.Pairs.{ground_with}
use Rattle.label_graph.specs.Targets.{IsFrom, IsStep}
use Rattle.label_graph.proofs.GraphSets.{step_set}
use Rattle.name_table.proofs.Tables.{one_place}
use Rattle.label_graph.proofs.Passing.{one_iff, single_iff}

-- a list of one item has its first
pub single : (xs : List ℕ) → length xs ≡ 1 → get_or xs 0 0 ∷ [] ≡ xs
single [] e = absurd (omega (arith, e))
single (x ∷ []) e = refl
single (x ∷ y ∷ rest) e = absurd (omega (arith, e))

-- the labels of the names one below, one for each
abbrev pub labels_of : List NextName → List (List ℕ)
labels_of nexts = map (λ next. next.label) nexts

-- the labels of names one below with one more are theirs and its label
pub labels_more : (nexts : List NextName) (next : NextName) → labels_of (nexts ++ next ∷ []) ≡ labels_of nexts ++ next.label ∷ []
labels_more nexts next = map-append (λ (n : NextName). n.label) nexts (next ∷ [])

-- places that are steps have places
pub steps_within : (names : List Labels) (label : List ℕ) (live places : List ℕ) → ((other : ℕ) → Contains places other ↔ SomeItem (IsStep names label other) live)
    → All (λ place. place < length names) places
steps_within names label live places steps =
    all_from_contains (λ (place : ℕ). place < length names) places (λ place has. let (above, among, is) = (steps place).0 has in is.0)

module _ (names : List Labels) (reads : List (List ℕ)) where
  -- below one place the one step to a label is the place of the name with it
  pub live_below_one : (place other : ℕ) (label places : List ℕ) → AreInOrder names → IsNextBelow names place other
      → name_at names other ≡ name_at names place ++ label ∷ []
      → ((o : ℕ) → Contains places o ↔ SomeItem (IsFrom reads o) (other ∷ [])) → IsLiveBelow names reads (place ∷ []) label places
  live_below_one place other label places order next is closed =
      record {
        steps = other ∷ [];
        are_steps = λ o. one_iff (IsStep names label o) (place ∷ []) refl (Contains (other ∷ []) o)
            (single_iff other (λ (x : ℕ). IsStep names label x place) (next.inside, is)
            (λ x step. one_place names order other x next.inside step.0 (is ∙ sym step.1)) o);
        closed = closed;
      }

  -- what is live below the live set of a name is the live set of the name with the label
  pub next_live : (pairs : List Pair) → IsGraph names pairs reads → (name : Labels) (live : List ℕ) → IsLiveSet (ground_with names pairs) name live
      → (label places : List ℕ) → IsLiveBelow names reads live label places → IsLiveSet (ground_with names pairs) (name ++ label ∷ []) places
  next_live pairs graph name live of label places below =
      step_set names pairs reads graph name label live below.steps places of below.are_steps below.closed
