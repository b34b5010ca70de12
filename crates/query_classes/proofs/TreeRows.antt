-- The rows of a class tree, and the names that wait while it is walked.
use Rattle.std.proofs.Common.{◌≡◌, ◌≤◌, ◌∙◌, ℕ, List, [], ◌∷◌, ◌++◌, length, map, reverse, ap, All, Contains, Option, None, Some, inl, inr, sym, refl, subst, arith}
use Rattle.std.proofs.lemmas.List.{length-map, map-append}
use Rattle.std.proofs.lemmas.List.Elements.{All-contains}
use Rattle.dns_data.specs.Name.{Labels}
use Rattle.dns_data.proofs.Membership.{none_in_nil, has_first, first_or_later, all_from_contains, map_has, from_map, flat_map_has, from_flat_map}
use Rattle.dns_data.proofs.NameOrder.{Before, Rising, rising_append, pairs_from_rising}
use Rattle.net_model.specs.declared.class.Class.TheVariants.{Below}
use Rattle.net_model.specs.Class.{IsClassOf, IsRepresentative}
use Rattle.net_model.specs.Reading.{Ground}
use Rattle.net_model.specs.Tree.{AreBelowClasses, HasMoreThan, IsInPart, IsTreePart}
use Rattle.net_model.proofs.Counting.{no_more_than}
use Rattle.label_graph.specs.LiveSet.{IsClosed}
use Rattle.query_classes.specs.Children.{AreChildren, IsInTree, IsBelow}
use Rattle.query_classes.specs.ClassList.{AreListed, classes_of_rows}
use Rattle.query_classes.specs.Members.{RepresentsClass}
use Rattle.query_classes.specs.Rows.{tree_names, below_names, if_some}
use Rattle.query_classes.specs.declared.live_name.LiveName.{LiveName}
use Rattle.query_classes.specs.declared.tree.ClassRow.{ClassRow}
use Rattle.query_classes.proofs.ClassLaws.{in_below}
use Rattle.query_classes.proofs.ClassLists.{rows_are_listed}
use Rattle.query_classes.proofs.TreeWalk.{AreWalked, walk_ends, walk_on, reverse_first, from_reverse}

-- only the name itself, and only where something stands for the class below
from_if_some : (name : Labels) (found : Option Labels) (x : Labels) → Contains (if_some name found) x → (name ≡ x) × ((below : Labels) × (found ≡ Some below))
from_if_some name None x has = absurd (none_in_nil x has)
from_if_some name (Some below) x has =
    elim (first_or_later name [] x has) [ inl same ↦ (same, (below, refl)) | inr none ↦ absurd (none_in_nil x none) ]

-- rows in order stay so where some are left out
below_rising : (rows : List ClassRow) → Rising (tree_names rows) → Rising (below_names rows)
below_rising [] order = tt
below_rising (row ∷ rows) order =
    rising_append (if_some row.name row.below) (below_names rows) (alone row.below) (below_rising rows order.1)
    (λ x y has there.
    let first = from_if_some row.name row.below x has in
    let (other, among, inner) = from_flat_map (λ (r : ClassRow). if_some r.name r.below) rows y there in
    let same = from_if_some other.name other.below y inner in
    subst (λ (n : Labels). Before n y) first.0
    (order.0 y (subst (Contains (tree_names rows)) same.0 (map_has (λ (r : ClassRow). r.name) rows other among))))
  where
    alone : (found : Option Labels) → Rising (if_some row.name found)
    alone None = tt
    alone (Some below) = (λ later has. absurd (none_in_nil later has), tt)

-- a name that stands for the class below another shows that the class isn't empty
pub not_empty_below : (ground : Ground) → IsClosed ground → (above : Labels) → IsInTree ground above → (name : Labels)
    → IsRepresentative ground (Below above) name → IsBelow ground above None → ⊥
not_empty_below ground closed above in_tree name stands empty =
    empty name stands.is_name
    (subst (λ (n : Labels). IsClassOf ground n (Below above)) (sym stands.extends)
    (in_below ground closed above stands.label [] in_tree.0 stands.first.unnamed))

module _ (ground : Ground) (closed : IsClosed ground) (rows : List ClassRow)
    (in_tree : (name : Labels) → Contains (tree_names rows) name → IsInTree ground name)
    (each : All (λ row. IsBelow ground row.name row.below) rows) (order : Rising (tree_names rows))
  where
    below_of : (row : ClassRow) → Contains rows row → IsBelow ground row.name row.below
    below_of row has = All-contains (λ (r : ClassRow). IsBelow ground r.name r.below) rows row each has

    there : (above : Labels) → Contains (below_names rows) above
        → Contains (tree_names rows) above × ((name : Labels) × IsRepresentative ground (Below above) name)
    there above has =
        let (row, among, inner) = from_flat_map (λ (r : ClassRow). if_some r.name r.below) rows above has in
        let (same, (below, is)) = from_if_some row.name row.below above inner in
        let stands : RepresentsClass ground (Below row.name) below = subst (IsBelow ground row.name) is (below_of row among) in
        subst (λ (n : Labels). Contains (tree_names rows) n × ((name : Labels) × IsRepresentative ground (Below n) name)) same
        (map_has (λ (r : ClassRow). r.name) rows row among, (below, stands.represents))

    back : (above : Labels) → Contains (tree_names rows) above × ((name : Labels) × IsRepresentative ground (Below above) name)
        → Contains (below_names rows) above
    back above (has, (name, stands)) =
        let (row, among, same) = from_map (λ (r : ClassRow). r.name) rows above has in
        flat_map_has (λ (r : ClassRow). if_some r.name r.below) rows row above among
        (subst (λ (n : Labels). Contains (if_some n row.below) above) (sym same)
        (some (row.below) (subst (λ (n : Labels). IsBelow ground n row.below) same (below_of row among))))
      where
        some : (found : Option Labels) → IsBelow ground above found → Contains (if_some above found) above
        some None empty = absurd (not_empty_below ground closed above (in_tree above has) name stands empty)
        some (Some below) is = has_first above []

    -- the names of the rows with a representative below are the names below which there is a class
    pub below_classes : AreBelowClasses ground (tree_names rows) (below_names rows)
    below_classes =
        record {
          ordered = pairs_from_rising (below_names rows) (below_rising rows order);
          all = λ above. (there above, back above);
        }

-- ---- when it is walked

-- what is told of the rows of a part of the class tree
pub record AreRowsOf (ground : Ground) (from : Labels) (most : ℕ) (rows : List ClassRow) : Type 0 where
  pub tree : IsTreePart ground from (tree_names rows)
  pub below : All (λ row. IsBelow ground row.name row.below) rows
  pub classes : AreBelowClasses ground (tree_names rows) (below_names rows)
  pub listed : AreListed ground from (classes_of_rows rows)
  pub few : length rows ≤ most
  pub none_more : HasMoreThan (IsInPart ground from) most → ⊥

-- if no name waits, the rows passed are those of the part of the class tree
pub rows_walked : (ground : Ground) → IsClosed ground → (from : Labels) (most : ℕ) (rows : List ClassRow)
    → AreWalked ground from (tree_names rows) [] → All (λ row. IsBelow ground row.name row.below) rows → length rows ≤ most
    → AreRowsOf ground from most rows
rows_walked ground closed from most rows walked each few =
    let tree : IsTreePart ground from (tree_names rows) = walk_ends ground closed from (tree_names rows) walked in
    let below : AreBelowClasses ground (tree_names rows) (below_names rows) =
    below_classes ground closed rows (λ name has. (let is = walked.in_part name has in (is.named, is.is_name))) each walked.order in
    record {
      tree = tree;
      below = each;
      classes = below;
      listed = rows_are_listed ground from rows tree each below;
      few = few;
      none_more =
          no_more_than (IsInPart ground from) most (tree_names rows) (omega (arith, few, length-map rows (λ (row : ClassRow). row.name)))
          (λ name. (tree.all name).1);
    }

-- ---- while it is walked

-- the names of live names
abbrev pub names_of : List LiveName → List Labels
names_of found = map (λ one. one.name) found

map_reverse : {X Y : Type 0} (f : X → Y) (xs : List X) → map f (reverse xs) ≡ reverse (map f xs)
map_reverse f [] = refl
map_reverse {Y = Y} f (x ∷ xs) =
    ap (map f) (reverse_first x xs) ∙ map-append f (reverse xs) (x ∷ [])
    ∙ ap (λ (l : List Y). l ++ f x ∷ []) (map_reverse f xs) ∙ sym (reverse_first (f x) (map f xs))

-- the walk of a class tree stands as before when the last name that waits is taken off
pub last_waits : (ground : Ground) (from : Labels) (passed : List Labels) (waiting left : List LiveName) (next : LiveName) → waiting ≡ left ++ next ∷ []
    → AreWalked ground from passed (names_of waiting) → AreWalked ground from passed (names_of left ++ next.name ∷ [])
last_waits ground from passed waiting left next is =
    subst (AreWalked ground from passed) (ap names_of is ∙ map-append (λ (one : LiveName). one.name) left (next ∷ []))

-- the walk goes on with a name passed and the names one label below it waiting
pub pass_next : (ground : Ground) → IsClosed ground → (from : Labels) (passed : List Labels) (left below : List LiveName) (next : Labels)
    → AreWalked ground from passed (names_of left ++ next ∷ []) → AreChildren ground next (names_of below)
    → AreWalked ground from (passed ++ next ∷ []) (names_of (left ++ reverse below))
pass_next ground closed from passed left below next walked children =
    let left_are : names_of (left ++ reverse below) ≡ names_of left ++ reverse (names_of below) =
    map-append (λ (one : LiveName). one.name) left (reverse below)
    ∙ ap (λ (l : List Labels). names_of left ++ l) (map_reverse (λ (one : LiveName). one.name) below) in
    subst (AreWalked ground from (passed ++ next ∷ [])) (sym left_are) (walk_on ground closed from passed (names_of left) next walked (names_of below) children)

-- the walk goes on with the row of a name passed and the names one label below it waiting
pub walk_further : (ground : Ground) → IsClosed ground → (from : Labels) (rows : List ClassRow) (left below : List LiveName) (next : LiveName) (row : ClassRow)
    → row.name ≡ next.name → AreWalked ground from (tree_names rows) (names_of left ++ next.name ∷ []) → AreChildren ground next.name (names_of below)
    → AreWalked ground from (tree_names (rows ++ row ∷ [])) (names_of (left ++ reverse below))
walk_further ground closed from rows left below next row same walked children =
    let rows_are : tree_names (rows ++ row ∷ []) ≡ tree_names rows ++ next.name ∷ [] =
    map-append (λ (r : ClassRow). r.name) rows (row ∷ []) ∙ ap (λ (n : Labels). tree_names rows ++ n ∷ []) same in
    subst (λ (l : List Labels). AreWalked ground from l (names_of (left ++ reverse below))) (sym rows_are)
    (pass_next ground closed from (tree_names rows) left below next.name walked children)

-- what holds of a list's items holds of those of the list turned round
pub all_reversed : {X : Type 0} (P : X → Type 0) (xs : List X) → All P xs → All P (reverse xs)
all_reversed P xs each = all_from_contains P (reverse xs) (λ x has. All-contains P xs x each (from_reverse xs x has))
