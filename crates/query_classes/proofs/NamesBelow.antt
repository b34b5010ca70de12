-- The names of the class tree one label below a name.
use Rattle.std.proofs.Common.{◌≡◌, ◌∙◌, ℕ, Bool, true, false, List, [], ◌∷◌, ◌++◌, map, All, Contains, AllPairs, Ordering, Less, Equal, refl, sym, ap, subst}
use Rattle.std.specs.Prelude.{◌↔◌, cond, nat_le}
use Rattle.std.specs.Ordering.{ordering_then}
use Rattle.std.proofs.lemmas.Bool.{le-leb}
use Rattle.std.proofs.lemmas.List.Elements.{All-contains}
use Rattle.std.proofs.lemmas.List.Kept.{AllPairs-filter}
use Rattle.dns_data.specs.Label.{label_cmp}
use Rattle.dns_data.specs.Name.{Labels, IsName, name_cmp, wire_octets}
use Rattle.dns_data.proofs.Membership.{map_has, from_map, filter_has, from_filter, all_from_contains, pairs_of_images}
use Rattle.dns_data.proofs.NameOrder.{under_label}
use Rattle.net_model.specs.Reading.{Ground, IsNamed}
use Rattle.label_graph.specs.LiveSet.{IsLiveSet}
use Rattle.label_graph.specs.declared.next.NextName.{NextName}
use Rattle.query_classes.specs.Children.{AreChildren, IsInTree, IsOneBelow, live_below, of_name_length}
use Rattle.query_classes.specs.declared.live_name.LiveName.{LiveName}

-- labels in order make names in order
below_order : (above : Labels) (a b : List ℕ) → label_cmp a b ≡ Less → name_cmp (above ++ a ∷ []) (above ++ b ∷ []) ≡ Less
below_order [] a b less = ap (λ (o : Ordering). ordering_then o Equal) less
below_order (label ∷ above) a b less = under_label label (above ++ a ∷ []) (above ++ b ∷ []) ∙ below_order above a b less

-- the names with labels that make named ones
pub children_are : (ground : Ground) (above : Labels) (labels : List (List ℕ)) → AllPairs (λ a b. label_cmp a b ≡ Less) labels
    → ((label : List ℕ) → Contains labels label ↔ IsNamed ground (above ++ label ∷ [])) → All IsName (of_name_length above labels)
    → AreChildren ground above (of_name_length above labels)
children_are ground above labels order named names =
    record {
      ordered =
          AllPairs-filter (λ a b. name_cmp a b ≡ Less) (λ (name : Labels). nat_le (wire_octets name) 255) (map (λ (label : List ℕ). above ++ label ∷ []) labels)
          (pairs_of_images (λ (label : List ℕ). above ++ label ∷ []) (λ a b. name_cmp a b ≡ Less) labels
          (λ i j d before within. below_order above _ _ (order i j d before within)));
      all = λ name. (there name, back name);
    }
  where
    there : (name : Labels) → Contains (of_name_length above labels) name → IsInTree ground name × IsOneBelow above name
    there name has =
        let found = from_filter (λ (n : Labels). nat_le (wire_octets n) 255) (map (λ (label : List ℕ). above ++ label ∷ []) labels) name has in
        let (label, among, is) = from_map (λ (l : List ℕ). above ++ l ∷ []) labels name found.0 in
        ((subst (IsNamed ground) is ((named label).0 among), All-contains IsName (of_name_length above labels) name names has), (label, sym is))

    back : (name : Labels) → IsInTree ground name × IsOneBelow above name → Contains (of_name_length above labels) name
    back name (in_tree, one) =
        let is : IsName name = in_tree.1 in
        filter_has (λ (n : Labels). nat_le (wire_octets n) 255) (map (λ (label : List ℕ). above ++ label ∷ []) labels) name
        (subst (Contains (map (λ (label : List ℕ). above ++ label ∷ []) labels)) (sym one.1)
        (map_has (λ (l : List ℕ). above ++ l ∷ []) labels one.0 ((named one.0).1 (subst (IsNamed ground) one.1 in_tree.0))))
        (le-leb (wire_octets name) 255 is.short)

-- a name that may be left out, before others
before_others : (is_short : Bool) (first : LiveName) (others : List LiveName) (names : List Labels) → map (λ (below : LiveName). below.name) others ≡ names
    → map (λ (below : LiveName). below.name) (cond is_short (first ∷ others) others) ≡ cond is_short (first.name ∷ names) names
before_others true first others names same = ap (λ (all : List Labels). first.name ∷ all) same
before_others false first others names same = same

-- with live sets the names are the same
pub names_of_live : (above : Labels) (nexts : List NextName) → map (λ (below : LiveName). below.name) (live_below above nexts) ≡ of_name_length above (map (λ (next : NextName). next.label) nexts)
names_of_live above [] = refl
names_of_live above (next ∷ nexts) =
    before_others (nat_le (wire_octets (above ++ next.label ∷ [])) 255) (record { name = above ++ next.label ∷ []; live = next.live }) (live_below above nexts)
    (of_name_length above (map (λ (n : NextName). n.label) nexts)) (names_of_live above nexts)

-- each name one label below has its live set, if each label has
pub all_live : (ground : Ground) (above : Labels) (nexts : List NextName) → All (λ next. IsLiveSet ground (above ++ next.label ∷ []) next.live) nexts
    → All (λ below. IsLiveSet ground below.name below.live) (live_below above nexts)
all_live ground above nexts each =
    all_from_contains (λ (below : LiveName). IsLiveSet ground below.name below.live) (live_below above nexts) (λ below has.
    let (among, _) = from_filter (λ (one : LiveName). nat_le (wire_octets one.name) 255) (map (λ (next : NextName). record { name = above ++ next.label ∷ []; live = next.live }) nexts) below has in
    let (next, in_nexts, is) = from_map (λ (next : NextName). record { name = above ++ next.label ∷ []; live = next.live }) nexts below among in
    subst (λ (one : LiveName). IsLiveSet ground one.name one.live) is (All-contains (λ (one : NextName). IsLiveSet ground (above ++ one.label ∷ []) one.live) nexts next each in_nexts))
