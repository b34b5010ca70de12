-- The live sets of a graph, by the places of base names.
use Rattle.std.proofs.Common.{◌≡◌, ◌∙◌, ℕ, ◌<◌, List, [], ◌∷◌, ◌++◌, length, Contains, inl, inr, sym, ap, subst}
use Rattle.std.specs.Prelude.{◌↔◌}
use Rattle.std.proofs.lemmas.List.Elements.{All-contains}
use Rattle.dns_data.specs.Name.{Labels}
use Rattle.dns_data.proofs.Membership.{none_in_nil, has_first, first_or_later, all_from_contains}
use Rattle.net_model.specs.Reading.{Ground, ReadsOnTo, IsNamed}
use Rattle.label_graph.specs.declared.pair.Pair.{Pair}
use Rattle.label_graph.specs.Graphs.{IsGraph, SomeItem, HasChild}
use Rattle.label_graph.specs.LiveSet.{IsLiveSet, name_at}
use Rattle.label_graph.specs.Pairs.{ground_with}
use Rattle.label_graph.specs.Rows.{RowHas}
use Rattle.label_graph.specs.Targets.{IsFrom, IsStep}
use Rattle.label_graph.proofs.FoundPlaces.{ReadsTo, from_true, found_reads, row_has, all_found}
use Rattle.label_graph.proofs.LedPlaces.{from_itself, from_row}
use Rattle.label_graph.proofs.LiveNames.{IsLive, Closed, Stepped, IsRoot, live_steps, steps_live, live_at_root, root_live, next_is_named, named_next}
use Rattle.name_table.proofs.Tables.{one_place, place_among, among_place}

module _ (names : List Labels) (pairs : List Pair) (reads : List (List ℕ)) (is : IsGraph names pairs reads) where
  abbrev ground : Ground
  ground = ground_with names pairs

  module _ (P : Labels → Type 0) (name : Labels) (places result : List ℕ)
      (there : (base : Labels) → Closed ground (IsLive ground) P base → IsLive ground name base)
      (back : (base : Labels) → IsLive ground name base → Closed ground (IsLive ground) P base)
      (within : (place : ℕ) → Contains places place → (place < length names) × P (name_at names place))
      (has : (place : ℕ) → place < length names → P (name_at names place) → Contains places place)
      (are : (other : ℕ) → Contains result other ↔ SomeItem (IsFrom reads other) places)
    where
      live_there : (other : ℕ) → SomeItem (IsFrom reads other) places → ReadsTo names reads pairs is.are_reads.each_true name other
      live_there other (place, among, led) =
          from_true names reads pairs is.are_reads.each_true name place other
          ((within place among).0, (there (name_at names place) (inl (within place among).1)).1) led

      live_back : (other : ℕ) → other < length names → Closed ground (IsLive ground) P (name_at names other) → SomeItem (IsFrom reads other) places
      live_back other below (inl here) = (other, has other below here, from_itself reads other)
      live_back other below (inr (one, among, owner, live)) =
          let each_true = is.are_reads.each_true in
          let (place, under, at) = place_among names one.owner (is.closed.redirected one among) in
          let (last, from, found, led, last_is) = all_found names pairs reads is.closed is.are_reads one.target (name_at names other) live in
          let inside : last < length names = (from_true names reads pairs each_true one.target from last (found_reads names reads pairs each_true one.target from found) led).0 in
          let row : RowHas reads place from = row_has names pairs reads is.closed is.are_reads one among place from under at found in (
            place,
            has place under (subst P (sym at) owner),
            from_row reads place from other row (subst (λ (k : ℕ). IsFrom reads k from) (one_place names is.order last other inside below last_is) led),
          )

      closed_set : IsLiveSet ground name result
      closed_set =
          record {
            within = all_from_contains (λ (place : ℕ). place < length names) result (λ other found. (live_there other ((are other).0 found)).0);
            live = λ other below. (
              λ found. (live_there other ((are other).0 found)).1,
              λ read. (are other).1 (live_back other below (back (name_at names other) (among_place names other below, read))),
            );
          }

  -- the places that are found for the root are its live set
  pub root_set : (root : ℕ) (result : List ℕ) → root < length names → name_at names root ≡ []
      → ((other : ℕ) → Contains result other ↔ SomeItem (IsFrom reads other) (root ∷ [])) → IsLiveSet ground [] result
  root_set root result below root_is are =
      closed_set (IsRoot ground (IsLive ground)) [] (root ∷ []) result (root_live ground is.closed) (live_at_root ground is.closed)
      (λ place among. elim (first_or_later root [] place among) [
        | inl same ↦ (subst (λ (k : ℕ). k < length names) same below, ap (name_at names) (sym same) ∙ root_is)
        | inr none ↦ absurd (none_in_nil place none)
      ])
      (λ place under at. subst (Contains (root ∷ [])) (one_place names is.order root place below under (root_is ∙ sym at)) (has_first root []))
      are

  -- the places that a label's steps and the targets' links give are the live set of the name with the label
  pub step_set : (name : Labels) (label : List ℕ) (live places result : List ℕ) → IsLiveSet ground name live
      → ((other : ℕ) → Contains places other ↔ SomeItem (IsStep names label other) live)
      → ((other : ℕ) → Contains result other ↔ SomeItem (IsFrom reads other) places)
      → IsLiveSet ground (name ++ label ∷ []) result
  step_set name label live places result of steps are =
      closed_set (Stepped ground (IsLive ground) (IsLive ground name) label) (name ++ label ∷ []) places result
      (λ base closed. steps_live ground is.closed name base label closed) (λ base found. live_steps ground is.closed name base label found)
      (λ place among. stepped place ((steps place).0 among)) (λ place under step. (steps place).1 (from place under step)) are
    where
      live_at : (place : ℕ) → Contains live place → IsLive ground name (name_at names place)
      live_at place among =
          let below : place < length names = All-contains (λ (k : ℕ). k < length names) live place of.within among in
          (among_place names place below, (of.live place below).0 among)

      stepped : (place : ℕ) → SomeItem (IsStep names label place) live
          → (place < length names) × Stepped ground (IsLive ground) (IsLive ground name) label (name_at names place)
      stepped place (above, among, (below, at)) =
          (below, (among_place names place below, (name_at names above, live_at above among, at)))

      from : (place : ℕ) → place < length names → Stepped ground (IsLive ground) (IsLive ground name) label (name_at names place)
          → SomeItem (IsStep names label place) live
      from place under (among, (above, found, at)) =
          let (k, below, same) = place_among names above found.0 in (
            k,
            (of.live k below).1 (subst (ReadsOnTo ground.redirections name) (sym same) found.1),
            (under, at ∙ ap (λ (n : Labels). n ++ label ∷ []) (sym same)),
          )

  -- a label makes a named name where it stands below some base name of the live set
  pub child_named : (name : Labels) (label : List ℕ) (live : List ℕ) → IsLiveSet ground name live
      → SomeItem (HasChild names label) live ↔ IsNamed ground (name ++ label ∷ [])
  child_named name label live of = (there, back) where
    there : SomeItem (HasChild names label) live → IsNamed ground (name ++ label ∷ [])
    there (place, among, child) =
        let below : place < length names = All-contains (λ (k : ℕ). k < length names) live place of.within among in
        next_is_named ground is.closed name (name_at names place) label
        (among_place names place below, (of.live place below).0 among) child

    back : IsNamed ground (name ++ label ∷ []) → SomeItem (HasChild names label) live
    back named =
        let (above, found, child) = named_next ground is.closed name label named in
        let (k, below, same) = place_among names above found.0 in (
          k,
          (of.live k below).1 (subst (ReadsOnTo ground.redirections name) (sym same) found.1),
          subst (λ (n : Labels). Contains names (n ++ label ∷ [])) (sym same) child,
        )
