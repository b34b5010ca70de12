-- The names of the class tree one label below a name: there is a list of them, and only one.
use Rattle.std.proofs.Common.{◌≡◌, ℕ, List, [], ◌∷◌, ◌++◌, filter, Contains, sym, subst}
use Rattle.dns_data.specs.Name.{Labels, name_cmp}
use Rattle.dns_data.proofs.Membership.{filter_has, from_filter}
use Rattle.dns_data.proofs.NameOrder.{names_total, pairs_from_rising}
use Rattle.dns_data.proofs.Names.{is_name, is_name_tells, is_name_told, same_names}
use Rattle.dns_data.proofs.OrderedLists.{same_rising}
use Rattle.net_model.specs.Order.{in_order}
use Rattle.net_model.specs.Reading.{Ground, IsNamed}
use Rattle.net_model.proofs.ItemsInOrder.{from_order, order_has, order_rises}
use Rattle.label_graph.specs.LiveSet.{IsClosed, IsLiveSet}
use Rattle.query_classes.specs.Children.{AreChildren, IsInTree, IsOneBelow}
use Rattle.query_classes.proofs.FirstFree.{taken, taken_one, taken_named, named_taken}

-- two lists of the children of a name are equal
pub one_children : (ground : Ground) (above : Labels) (a b : List Labels) → AreChildren ground above a → AreChildren ground above b → a ≡ b
one_children ground above a b one other =
    same_rising name_cmp names_total a b one.ordered other.ordered
    (λ name has. (other.all name).1 ((one.all name).0 has)) (λ name has. (one.all name).1 ((other.all name).0 has))

-- ---- the list of children

-- each name with a known live set has a list of its children
pub children_exist : (ground : Ground) → IsClosed ground → (above : Labels) (live : List ℕ) → IsLiveSet ground above live
    → (names : List Labels) × AreChildren ground above names
children_exist ground closed above live of = (
  in_order name_cmp (filter is_name (taken ground closed above live of)),
  record { ordered = pairs_from_rising _ (order_rises (filter is_name (taken ground closed above live of))); all = λ name. (there name, back name) },
)
  where
    there : (name : Labels) → Contains (in_order name_cmp (filter is_name (taken ground closed above live of))) name → IsInTree ground name × IsOneBelow above name
    there name has =
        let found = from_filter is_name (taken ground closed above live of) name (from_order name_cmp (filter is_name (taken ground closed above live of)) name has) in
        let (label, is) = taken_one ground closed above live of name found.0 in
        let named : IsNamed ground (above ++ label ∷ []) =
        taken_named ground closed above live of label (subst (Contains (taken ground closed above live of)) is found.0) in
        ((subst (IsNamed ground) (sym is) named, is_name_tells name found.1), (label, is))

    back : (name : Labels) → IsInTree ground name × IsOneBelow above name → Contains (in_order name_cmp (filter is_name (taken ground closed above live of))) name
    back name ((named, is_a_name), (label, is)) =
        order_has name_cmp same_names (filter is_name (taken ground closed above live of)) name
        (filter_has is_name (taken ground closed above live of) name
        (subst (Contains (taken ground closed above live of)) (sym is) (named_taken ground closed above live of label (subst (IsNamed ground) is named)))
        (is_name_told name is_a_name))
