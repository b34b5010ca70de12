-- The names of a class tree as items: the children of each are a list, each name is a child of one name alone and of it
-- once, and the names that are reached from a first one are those of the tree at or below it.
use Rattle.std.proofs.Common.{◌≡◌, ◌≢◌, ◌∙◌, ℕ, zero, suc, ◌<◌, List, [], ◌∷◌, ◌++◌, length, get_or, AllPairs, Some, inl, inr, refl, sym, ap, subst, append_assoc, append-nil, arith}
use Rattle.std.specs.Prelude.{◌↔◌, slice_get}
use Rattle.std.specs.List.{AllByRecursion}
use Rattle.std.proofs.lemmas.Bool.{cases_lt}
use Rattle.std.proofs.lemmas.List.{length-append}
use Rattle.std.proofs.lemmas.Option.{slice_get_within, get_or_from_slice_get, slice_get-get_or}
use Rattle.dns_data.specs.Name.{Labels, name_cmp}
use Rattle.dns_data.proofs.NameFronts.{Begins, is_prefix_tells, is_prefix_told}
use Rattle.dns_data.proofs.NameOrder.{Before, names_total}
use Rattle.dns_data.proofs.Names.{prefix_is_name}
use Rattle.dns_data.proofs.OrderedLists.{never_before_itself}
use Rattle.net_model.specs.Reading.{Ground}
use Rattle.net_model.specs.Tree.{HasMoreThan, IsInPart}
use Rattle.label_graph.specs.LiveSet.{IsClosed}
use Rattle.label_graph.proofs.LiveNames.{prefix_is_named}
use Rattle.label_graph.proofs.NamePlaces.{same_above}
use Rattle.query_classes.specs.Children.{AreChildren, IsOneBelow, IsInTree}
use Rattle.query_classes.proofs.ChildLists.{children_exist}
use Rattle.query_classes.proofs.LiveSetsExist.{live_set_of}
use Rattle.verdict_book.specs.Items.{ParentsApart, IsChildAt, IsItemPath, Reached, ReachesMore, NoneTwice}

-- the names of the class tree one label below a name
pub children_of : (ground : Ground) → IsClosed ground → Labels → List Labels
children_of ground closed name = (children_exist ground closed name (live_set_of ground closed name).0 (live_set_of ground closed name).1).0

-- the listed children of a name are the names of the class tree one label below it, in order
pub children_are : (ground : Ground) (closed : IsClosed ground) (name : Labels) → AreChildren ground name (children_of ground closed name)
unfolding children_of
children_are ground closed name = (children_exist ground closed name (live_set_of ground closed name).0 (live_set_of ground closed name).1).1

-- an item of a list by its number
pub at_number : {X : Type 0} (xs : List X) (k : ℕ) (x : X) → slice_get xs k ≡ Some x → (k < length xs) × ((d : X) → get_or xs k d ≡ x)
at_number xs k x e = (slice_get_within xs k x e, λ d. get_or_from_slice_get xs k x d e)

module _ (ground : Ground) (first : Labels) (children : Labels → List Labels) (are : (name : Labels) → AreChildren ground name (children name)) where
  child_of : (parent : Labels) (place : ℕ) (item : Labels) → IsChildAt children parent place item
      → IsInTree ground item × IsOneBelow parent item
  child_of parent place item at =
      let (within, is) = at_number (children parent) place item at in
      let of_parent : AreChildren ground parent (children parent) = are parent in
      (of_parent.all item).0 (place, within, is item)

  once : (parent : Labels) (k j : ℕ) (item : Labels) → IsChildAt children parent k item → IsChildAt children parent j item → k < j → ⊥
  once parent k j item at also less =
      let (within, is) = at_number (children parent) k item at in
      let (inside, too) = at_number (children parent) j item also in
      let of_parent : AreChildren ground parent (children parent) = are parent in
      never_before_itself name_cmp names_total item
      (subst (λ (n : Labels). Before n item) (is item)
      (subst (Before (get_or (children parent) k item)) (too item) (of_parent.ordered k j item less inside)))

  -- a name that is reached is at or below the first
  chain_begins : (from : Labels) (path : List Labels) (to : Labels) → IsItemPath children from path to → Begins from to
  chain_begins from [] to e = ([], append-nil from ∙ e)
  chain_begins from (next ∷ path) to ((place, at), chain) =
      let (label, is) = (child_of from place next at).1 in
      let (below, e) = chain_begins next path to chain in
      (label ∷ below, sym (append_assoc from (label ∷ []) below) ∙ ap (λ (n : Labels). n ++ below) (sym is) ∙ e)

  -- no name is a child of two, or twice of one, and the first is a child of none
  pub parents_apart : ParentsApart first children
  parents_apart =
      record {
        one = λ parent other place place' item reached also at there.
            let (label, is) = (child_of parent place item at).1 in
            let (label', is') = (child_of other place' item there).1 in
            let same : parent ≡ other = same_above parent other label label' (sym is ∙ is') in
            let here : IsChildAt children parent place' item = subst (λ (n : Labels). IsChildAt children n place' item) (sym same) there in (
              same,
              elim (cases_lt place place') [
                | inl less ↦ absurd (once parent place place' item at here less)
                | inr not_less ↦ elim (cases_lt place' place) [
                  | inl more ↦ absurd (once parent place' place item here at more)
                  | inr not_more ↦ omega arith
                ]
              ],
            );
        none_of_first = λ parent place reached at.
            let (label, is) = (child_of parent place first at).1 in
            let (below, e) = chain_begins first reached.0 parent reached.1 in
            absurd (omega (arith, ap length is, ap length e, length-append parent (label ∷ []), length-append first below));
      }

  -- ---- what is reached

  chain_in_tree : (from : Labels) (path : List Labels) (to : Labels) → IsInTree ground from → IsItemPath children from path to → IsInTree ground to
  chain_in_tree from [] to is e = subst (IsInTree ground) e is
  chain_in_tree from (next ∷ path) to is ((place, at), chain) = chain_in_tree next path to (child_of from place next at).0 chain

  -- what is reached from a name of the tree is in its part
  pub reached_in_part : IsInTree ground first → (name : Labels) → Reached first children name → IsInPart ground first name
  reached_in_part in_tree name (path, chain) =
      let is : IsInTree ground name = chain_in_tree first path name in_tree chain in
      record { named = is.0; is_name = is.1; within = is_prefix_told first name (chain_begins first path name chain) }

  module _ (closed : IsClosed ground) where
    chain_to : (front rest : Labels) → IsInTree ground (front ++ rest) → (path : List Labels) × IsItemPath children front path (front ++ rest)
    chain_to front [] is = ([], sym (append-nil front))
    chain_to front (label ∷ rest) is =
        let whole : (front ++ label ∷ []) ++ rest ≡ front ++ label ∷ rest = append_assoc front (label ∷ []) rest in
        let also : IsInTree ground ((front ++ label ∷ []) ++ rest) = subst (IsInTree ground) (sym whole) is in
        let next : IsInTree ground (front ++ label ∷ []) = (
          prefix_is_named ground closed (front ++ label ∷ []) rest also.0,
          prefix_is_name (front ++ label ∷ []) ((front ++ label ∷ []) ++ rest) rest refl also.1,
        ) in
        let of_front : AreChildren ground front (children front) = are front in
        let (place, within, at) = (of_front.all (front ++ label ∷ [])).1 (next, (label, refl)) in
        let (path, chain) = chain_to (front ++ label ∷ []) rest also in (
          (front ++ label ∷ []) ∷ path,
          (
            (place, slice_get-get_or (children front) place (front ++ label ∷ []) within ∙ ap (λ (n : Labels). Some n) at),
            subst (IsItemPath children (front ++ label ∷ []) path) whole chain,
          ),
        )

    -- each name of the part of the tree at or below the first is reached
    pub part_reached : (name : Labels) → IsInPart ground first name → Reached first children name
    part_reached name is =
        let (below, e) = is_prefix_tells first name is.within in
        let (path, chain) = chain_to first below (subst (IsInTree ground) (sym e) (is.named, is.is_name)) in
        (path, subst (IsItemPath children first path) e chain)

  -- what holds of each item of a list by its number holds along the list, and back
  along_numbers : (P : Labels → Type 0) (names : List Labels) → ((k : ℕ) (name : Labels) → slice_get names k ≡ Some name → P name) → AllByRecursion P names
  along_numbers P [] each = tt
  along_numbers P (name ∷ names) each = (each 0 name refl, along_numbers P names (λ k other at. each (suc k) other at))

  at_each : (P : Labels → Type 0) (names : List Labels) → AllByRecursion P names → (k : ℕ) (name : Labels) → slice_get names k ≡ Some name → P name
  at_each P [] each k name at = absurd cc
  at_each P (one ∷ names) each zero name at = let same : one ≡ name = cc in subst P same each.0
  at_each P (one ∷ names) each (suc k) name at = at_each P names each.1 k name at

  -- names of which none stands twice differ from each other, and back
  differ : (names : List Labels) → NoneTwice names → AllPairs (λ a b. a ≢ b) names
  differ names none i j d less within same =
      let e : slice_get names i ≡ Some (get_or names j d) = slice_get-get_or names i d (omega arith) ∙ ap (λ (n : Labels). Some n) same in
      let equal : i ≡ j = none i j (get_or names j d) e (slice_get-get_or names j d within) in omega arith

  none_twice : (names : List Labels) → AllPairs (λ a b. a ≢ b) names → NoneTwice names
  none_twice names apart place place' item at also =
      elim (cases_lt place place') [
        | inl less ↦ absurd (clash place place' at also less)
        | inr not_less ↦ elim (cases_lt place' place) [ inl more ↦ absurd (clash place' place also at more) | inr not_more ↦ omega arith ]
      ]
    where
      clash : (i j : ℕ) → slice_get names i ≡ Some item → slice_get names j ≡ Some item → i < j → ⊥
      clash i j one other less =
          let (within, is) = at_number names i item one in
          let (inside, too) = at_number names j item other in
          apart i j [] less inside (is [] ∙ sym (too []))

  -- more names are reached than so many exactly where the part has more
  pub reaches_more : IsClosed ground → IsInTree ground first → (limit : ℕ) → ReachesMore first children limit ↔ HasMoreThan (IsInPart ground first) limit
  reaches_more closed in_tree limit = (
    λ more. record {
      items = more.items;
      more = more.more;
      differ = differ more.items more.once;
      each = along_numbers (IsInPart ground first) more.items (λ k name at. reached_in_part in_tree name (more.reached k name at));
    },
    λ more. record {
      items = more.items;
      more = more.more;
      reached = λ place name at. part_reached closed name (at_each (IsInPart ground first) more.items more.each place name at);
      once = none_twice more.items more.differ;
    },
  )
