-- Each name has a live set in a graph, found label by label.
use Rattle.std.proofs.Common.{ℕ, ◌<◌, List, [], ◌∷◌, ◌++◌, filter, flat_map, length, Contains, inl, inr, sym, subst, append_assoc, append-nil}
use Rattle.std.specs.Prelude.{◌↔◌}
use Rattle.dns_data.specs.Name.{Labels, name_eq}
use Rattle.dns_data.proofs.Membership.{none_in_nil, first_or_later, filter_has, from_filter, flat_map_has, from_flat_map}
use Rattle.dns_data.proofs.Names.{name_eq_decides}
use Rattle.dns_data.proofs.NumbersBelow.{numbers_below, numbers_below_have, from_numbers_below}
use Rattle.label_graph.specs.declared.pair.Pair.{Pair}
use Rattle.label_graph.specs.Graphs.{IsGraph, SomeItem}
use Rattle.label_graph.specs.LiveSet.{IsLiveSet, name_at}
use Rattle.label_graph.specs.Pairs.{ground_with}
use Rattle.label_graph.specs.Targets.{IsFrom, IsStep}
use Rattle.label_graph.proofs.GraphSets.{root_set, step_set}
use Rattle.label_graph.proofs.LedPlaces.{can_be_closed}
use Rattle.name_table.proofs.Tables.{place_among}

module _ (names : List Labels) (pairs : List Pair) (reads : List (List ℕ)) (is : IsGraph names pairs reads) where
  closed_over : (places : List ℕ) → ((place : ℕ) → Contains places place → place < length names)
      → (all : List ℕ) × ((other : ℕ) → Contains all other ↔ SomeItem (IsFrom reads other) places)
  closed_over places below =
      can_be_closed reads places is.are_reads.each_true.inside (λ place has. subst (λ (n : ℕ). place < n) (sym is.are_reads.each_true.len) (below place has))

  -- the places of a name one label below
  abbrev step : List ℕ → ℕ → List ℕ
  step label place = filter (λ (k : ℕ). name_eq (name_at names k) (name_at names place ++ label ∷ [])) (numbers_below (length names))

  step_has : (label : List ℕ) (live : List ℕ) (other : ℕ) → Contains (flat_map (step label) live) other ↔ SomeItem (IsStep names label other) live
  step_has label live other = (there, back) where
    there : Contains (flat_map (step label) live) other → SomeItem (IsStep names label other) live
    there has =
        let (place, among, inner) = from_flat_map (step label) live other has in
        let found = from_filter (λ (k : ℕ). name_eq (name_at names k) (name_at names place ++ label ∷ [])) (numbers_below (length names)) other inner in
        (place, among, (from_numbers_below (length names) other found.0, (name_eq_decides (name_at names other) (name_at names place ++ label ∷ [])).0 found.1))

    back : SomeItem (IsStep names label other) live → Contains (flat_map (step label) live) other
    back (place, among, (within, at)) =
        flat_map_has (step label) live place other among
        (filter_has (λ (k : ℕ). name_eq (name_at names k) (name_at names place ++ label ∷ [])) (numbers_below (length names)) other
        (numbers_below_have (length names) other within)
        ((name_eq_decides (name_at names other) (name_at names place ++ label ∷ [])).1 at))

  live_further : (front rest : Labels) (live : List ℕ) → IsLiveSet (ground_with names pairs) front live
      → (places : List ℕ) × IsLiveSet (ground_with names pairs) (front ++ rest) places
  live_further front [] live of = (live, subst (λ (n : Labels). IsLiveSet (ground_with names pairs) n live) (sym (append-nil front)) of)
  live_further front (label ∷ rest) live of =
      let (next, are) =
      closed_over (flat_map (step label) live) (λ place has. let (above, among, at) = (step_has label live place).0 has in at.0) in
      let (places, found) =
      live_further (front ++ label ∷ []) rest next
      (step_set names pairs reads is front label live (flat_map (step label) live) next of (step_has label live) are) in
      (places, subst (λ (n : Labels). IsLiveSet (ground_with names pairs) n places) (append_assoc front (label ∷ []) rest) found)

  -- each name has a live set in a graph
  pub live_of_name : (name : Labels) → (places : List ℕ) × IsLiveSet (ground_with names pairs) name places
  live_of_name name =
      let (root, below, at) = place_among names [] is.closed.names.root in
      let (live, are) =
      closed_over (root ∷ []) (λ place has. elim (first_or_later root [] place has) [
        | inl same ↦ subst (λ (k : ℕ). k < length names) same below
        | inr none ↦ absurd (none_in_nil place none)
      ]) in
      live_further [] name live (root_set names pairs reads is root live below at are)
