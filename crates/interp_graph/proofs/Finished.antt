-- Where each listed state has its node, the nodes are those of a graph of the query's walks.
use Rattle.std.proofs.Common.{◌≡◌, ◌≢◌, ℕ, zero, suc, ◌<◌, ◌≤◌, Bool, true, false, List, [], ◌∷◌, map, length, Some, refl, sym, ap, ◌∙◌, subst, arith}
use Rattle.std.specs.Prelude.{AllPairs, Contains, is_some, not, slice_get}
use Rattle.std.specs.List.{AllZip}
use Rattle.std.proofs.lemmas.Option.{slice_get_within}
use Rattle.dns_data.specs.Name.{Labels}
use Rattle.dns_data.specs.RrType.{type_eq, types}
use Rattle.dns_data.specs.TypeSet.{has_bit}
use Rattle.dns_data.specs.declared.rr_type.RrType.{RrType}
use Rattle.dns_data.specs.declared.rr_type.RrType.TheVariants as rr
use Rattle.dns_data.proofs.Membership.{from_filter, from_flat_map, from_map, map_has}
use Rattle.dns_data.proofs.Searches.{any_has, find_some, from_any}
use Rattle.net_model.specs.Step as step
use Rattle.net_model.specs.Step.{Setting, next, start}
use Rattle.net_model.specs.declared.walk.State.{State}
use Rattle.graph_form.specs.Graph.{PlainGraph, arm_pairs, node_pairs, pairs_of, types_of}
use Rattle.graph_form.specs.GraphOf.{HasState, HasType, IsGraphOf, TellsStep}
use Rattle.graph_form.specs.declared.node.Arm.{Arm}
use Rattle.graph_form.specs.declared.node.Branch.{Branch}
use Rattle.graph_form.specs.declared.node.Branch.TheVariants.{Go, End}
use Rattle.graph_form.specs.declared.node.Node.{Node}
use Rattle.graph_form.proofs.Places.{place_of_item}
use Rattle.zone_tree.proofs.Types.{one_type}
use Rattle.zone_lookup.specs.Alike.{IsApart}
use Rattle.interp_graph.specs.Making as making
use Rattle.interp_graph.specs.Making.{AreNodes, IsNode, nodes_of, typed}
use Rattle.interp_graph.proofs.ItemsByNumber.{beside, item_below, one_there, pairs_from_images, side_by_side}
use Rattle.interp_graph.proofs.TypesAlike.{typed_first, typed_other}

-- ---- nodes of states and of the arms beside them

-- a node has the state and the arms with its number
pub parts_there : (states : List State) (all : List (List Arm)) (at : ℕ) (node : Node) → slice_get (nodes_of states all) at ≡ Some node
    → (slice_get states at ≡ Some node.state) × (slice_get all at ≡ Some node.arms)
parts_there [] all at node is = cc
parts_there (s ∷ states) [] at node is = cc
parts_there (s ∷ states) (arms ∷ all) zero node is =
    let same : record { state = s; arms = arms } ≡ node = cc in (ap (λ (n : Node). Some n.state) same, ap (λ (n : Node). Some n.arms) same)
parts_there (s ∷ states) (arms ∷ all) (suc at) node is = parts_there states all at node is

-- a state, if there are no fewer arms, has its node
pub node_there : (states : List State) (all : List (List Arm)) → length states ≤ length all → (at : ℕ) (state : State) → slice_get states at ≡ Some state
    → (node : Node) × (slice_get (nodes_of states all) at ≡ Some node) × (node.state ≡ state)
node_there [] all few at state is = cc
node_there (s ∷ states) [] few at state is = absurd (omega (arith, few))
node_there (s ∷ states) (arms ∷ all) few zero state is = let same : s ≡ state = cc in (record { state = s; arms = arms }, refl, same)
node_there (s ∷ states) (arms ∷ all) few (suc at) state is = node_there states all (omega (arith, few)) at state is

-- there are no more nodes than states
pub few_nodes : (states : List State) (all : List (List Arm)) → length (nodes_of states all) ≤ length states
few_nodes [] all = omega arith
few_nodes (s ∷ states) [] = omega arith
few_nodes (s ∷ states) (arms ∷ all) = omega (arith, few_nodes states all)

-- the nodes have the states, if there are no fewer arms
pub states_stand : (states : List State) (all : List (List Arm)) → length states ≤ length all → map (λ (node : Node). node.state) (nodes_of states all) ≡ states
states_stand [] all few = refl
states_stand (s ∷ states) [] few = absurd (omega (arith, few))
states_stand (s ∷ states) (arms ∷ all) few = ap (λ (ss : List State). s ∷ ss) (states_stand states all (omega (arith, few)))

-- no two nodes have equal states, if no two states are equal
pub one_node : (states : List State) (all : List (List Arm)) → length states ≤ length all → AllPairs (λ a b. a ≢ b) states
    → AllPairs (λ (a b : Node). a.state ≢ b.state) (nodes_of states all)
one_node states all few once =
    pairs_from_images (λ (node : Node). node.state) (λ a b. a ≢ b) (nodes_of states all)
    (subst (AllPairs (λ (a b : State). a ≢ b)) (sym (states_stand states all few)) once)

-- ---- the graph

module _ (setting : Setting) (states : List State) (first : ℕ) (all : List (List Arm)) (are : AreNodes setting states first all) (starts : List ℕ) where
  abbrev graph : PlainGraph
  graph = record { nodes = nodes_of states all; starts = starts }

  -- a node of the graph is one of its state, for the types that reach this
  node_is : (at : ℕ) (node : Node) → slice_get (nodes_of states all) at ≡ Some node → IsNode setting states first (typed first at) node.arms node.state
  node_is at node is =
      let parts = parts_there states all at node is in
      let so = are.beside at (slice_get_within all at node.arms parts.1) in
      subst (λ (s : State). IsNode setting states first (typed first at) node.arms s) (one_there states at so.other node.state so.at_other parts.0)
      (subst (λ (arms : List Arm). IsNode setting states first (typed first at) arms so.other) (one_there all at so.one node.arms so.at_one parts.1) so.paired)

  has_state : (at : ℕ) (state : State) → slice_get states at ≡ Some state → HasState graph at state
  has_state at state is = node_there states all are.all at state is

  -- a node has an arm for each type that reaches its state
  has_type : (at : ℕ) (rtype : RrType) → at < length states → typed first at rtype ≡ true → HasType graph rtype at
  has_type at rtype below is =
      let state = item_below states at below in
      let (node, there, same) = has_state at state.0 state.1 in
      let (set, among, bit) = from_any (λ (set : List Bool). has_bit set rtype) (map (λ (arm : Arm). arm.types) node.arms)
      ((node_is at node there).split.together rtype ∙ is) in
      let (arm, has, types_are) = from_map (λ (arm : Arm). arm.types) node.arms set among in
      let found = find_some (λ (a : Arm). has_bit a.types rtype) node.arms arm has (ap (λ (types : List Bool). has_bit types rtype) types_are ∙ bit) in
      (node, there, ap is_some found.1)

  tells : (branch : Branch) (other : step.Branch) → making.TellsStep states branch other → TellsStep graph branch other
  tells (Go hop to) other (state, same, is) = (state, same, has_state to state is)
  tells (End hop leaf) other same = same

  -- a type of an arm reaches the states to which the arm leads
  goes_typed : (rtype : RrType) (to : ℕ) → ((type_eq rtype rr.Cname ≡ true) → to < first) → typed first to rtype ≡ true
  goes_typed rtype to inside = by (type_eq rtype rr.Cname) refl where
    by : (b : Bool) → type_eq rtype rr.Cname ≡ b → typed first to rtype ≡ true
    by true is = ap (λ (among : RrType → Bool). among rtype) (typed_first first to (inside is))
    by false is = typed_other first to rtype (ap not is)

  -- the graph is one of the query's walks, if the query begins in the first states
  pub is_graph : (query : Labels) → AllZip (λ at state. (slice_get states at ≡ Some state) × (at < first)) starts (start setting.config query)
      → IsGraphOf setting query graph
  is_graph query begun =
      record {
        steps = λ at node arm rtype is bit.
            side_by_side (making.TellsStep states) (TellsStep graph) arm.branches (next setting rtype node.state) tells
            ((node_is at node is.is_node).tell arm is.has_arm rtype bit);
        closed = λ at node arm rtype is bit hop to has.
            let so = node_is at node is.is_node in
            let told = beside (making.TellsStep states) arm.branches (next setting rtype node.state) (Go hop to) (so.tell arm is.has_arm rtype bit) has in
            has_type to rtype (slice_get_within states to told.2.0 told.2.2)
            (goes_typed rtype to (λ cname. so.inside arm is.has_arm (subst (λ t. has_bit arm.types t ≡ true) (one_type rtype rr.Cname cname) bit) hop to has));
        starts = side_by_side (λ at state. (slice_get states at ≡ Some state) × (at < first)) (HasState graph) starts (start setting.config query)
            (λ at state so. has_state at state so.0) begun;
        all_types = λ at has rtype.
            let there = beside (λ at state. (slice_get states at ≡ Some state) × (at < first)) starts (start setting.config query) at begun has in
            has_type at rtype (slice_get_within states at there.0 there.2.0) (ap (λ (among : RrType → Bool). among rtype) (typed_first first at there.2.1));
        apart = λ at node is. pairs_from_images (λ (arm : Arm). arm.types) IsApart node.arms (node_is at node is).split.apart;
      }

  -- a pair of the graph is one of a listed state with a type that reaches it
  pub pair_is : (pair : State × RrType) → Contains (pairs_of graph) pair → (at : ℕ) × (slice_get states at ≡ Some pair.0) × (typed first at pair.1 ≡ true)
  pair_is pair has =
      let (node, there, of_node) = from_flat_map node_pairs (nodes_of states all) pair has in
      let (at, is) = place_of_item (nodes_of states all) node there in
      let (arm, has_arm, of_arm) = from_flat_map (arm_pairs node.state) node.arms pair of_node in
      let make : RrType → State × RrType = λ t. (node.state, t) in
      let (rtype, among, same) = from_map make (types_of arm) pair of_arm in
      let bit : has_bit arm.types pair.1 ≡ true = ap (has_bit arm.types) (sym (ap (λ (p : State × RrType). p.1) same)) ∙ (from_filter (has_bit arm.types) types rtype among).1 in (
        at,
        (parts_there states all at node is).0 ∙ ap (λ (p : State × RrType). Some p.0) same,
        sym ((node_is at node is).split.together pair.1)
            ∙ any_has (λ (set : List Bool). has_bit set pair.1) (map (λ (arm : Arm). arm.types) node.arms) arm.types (map_has (λ (arm : Arm). arm.types) node.arms arm has_arm) bit,
      )
