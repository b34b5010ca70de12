-- What holds of each name at or below another holds of each at or below the names one label below it.
use Rattle.std.proofs.Common.{◌≡◌, Bool, true, ◌∷◌, [], List, All, map, sym}
use Rattle.std.proofs.lemmas.List.Elements.{All-contains}
use Rattle.dns_data.specs.Name.{Labels}
use Rattle.dns_data.proofs.Membership.{all_from_contains, map_has}
use Rattle.dns_data.proofs.NameFronts.{is_prefix_tells, is_prefix_told}
use Rattle.label_graph.specs.LiveSet.{IsLiveSet}
use Rattle.net_model.specs.Reading.{Ground}
use Rattle.net_model.proofs.Descent.{prefix_of_prefix}
use Rattle.query_classes.specs.Children.{AreChildren, IsOneBelow}
use Rattle.query_classes.specs.TreeNames.{AreBaseNamesOf, HoldsBelow, IsTreeName}
use Rattle.query_classes.specs.declared.live_name.LiveName.{LiveName}
use Rattle.query_classes.proofs.LiveInEach.{live_in_each}

-- of a name one label below
holds_one_below : (holds : Labels → Type 0) (above name : Labels) → IsOneBelow above name → HoldsBelow holds above → HoldsBelow holds name
holds_one_below holds above name (label, is) all below inside =
    all below (is_prefix_told above below (prefix_of_prefix above name below (label ∷ [], sym is) (is_prefix_tells name below inside)))

-- the children of a name of the tree are names of the tree, and what holds of all names below it holds below each
pub children_hold : (ground graph : Ground) → AreBaseNamesOf ground graph → (holds : Labels → Type 0) (all_hold : Bool) (above : Labels)
    → (all_hold ≡ true → HoldsBelow holds above) → (found : List LiveName) → AreChildren graph above (map (λ one. one.name) found)
    → All (λ one. IsLiveSet graph one.name one.live) found → All (IsTreeName ground holds all_hold) found
children_hold ground graph are holds all_hold above all found children live =
    all_from_contains (IsTreeName ground holds all_hold) found
    (λ one has. record {
      live = live_in_each ground graph are one.name one.live (All-contains (λ (one : LiveName). IsLiveSet graph one.name one.live) found one live has);
      below = λ said. holds_one_below holds above one.name ((children.all one.name).0 (map_has (λ (one : LiveName). one.name) found one has)).1 (all said);
    })
