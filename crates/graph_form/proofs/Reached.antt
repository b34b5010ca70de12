-- The pairs of a graph of a query are those that the query reaches.
use Rattle.std.proofs.Common.{◌≡◌, ◌≢◌, ℕ, zero, suc, Bool, true, false, List, [], ◌∷◌, length, refl, sym, ap, ◌∙◌, subst, ◌==◌, inl, inr, Some, None, true≢false, arith}
use Rattle.std.specs.Prelude.{◌<◌, AllPairs, Contains, slice_get, slice_index_or, Option, is_some, option_map, option_and_then}
use Rattle.std.specs.List.{flat_map}
use Rattle.std.specs.Option.{option_map_or, option_to_list}
use Rattle.std.proofs.lemmas.List.Kept.{AllPairs-filter}
use Rattle.dns_data.specs.Name.{Labels}
use Rattle.dns_data.specs.RrType.{types}
use Rattle.dns_data.specs.TypeSet.{has_bit, place_of}
use Rattle.dns_data.specs.declared.rr_type.RrType.{RrType}
use Rattle.dns_data.specs.declared.rr_type.RrType.TheVariants as rr
use Rattle.dns_data.proofs.Membership.{none_in_nil, first_or_later, filter_has, from_filter, map_has, from_map, flat_map_has, from_flat_map, pairs_of_images}
use Rattle.dns_data.proofs.Searches.{found_there}
use Rattle.net_model.specs.Nearest.{server_names}
use Rattle.net_model.specs.Step.{Setting, following}
use Rattle.net_model.specs.Tree.{AreReached}
use Rattle.net_model.specs.Walk.{led_on, walk_along}
use Rattle.net_model.specs.declared.config.Config.{Config}
use Rattle.net_model.specs.declared.walk.Hop.{Hop}
use Rattle.net_model.specs.declared.walk.State.{State}
use Rattle.net_model.specs.declared.walk.Walk.{Walk}
use Rattle.graph_form.specs.Graph.{PlainGraph, types_of, arm_pairs, node_pairs, pairs_of, arm_of, by_branch, node_walk, path_from, path_along}
use Rattle.graph_form.specs.GraphOf.{HasType, IsArm, IsGraphOf, IsExact}
use Rattle.graph_form.specs.declared.node.Arm.{Arm}
use Rattle.graph_form.specs.declared.node.Branch.{Branch}
use Rattle.graph_form.specs.declared.node.Branch.TheVariants.{Go, End}
use Rattle.graph_form.specs.declared.node.Node.{Node}
use Rattle.graph_form.proofs.Paths.{path_is_walk}
use Rattle.graph_form.proofs.Places.{item_there, place_of_item, pairs_in_row}

-- each type is one of the twelve
pub every_type : (rtype : RrType) → Contains types rtype
every_type rr.A = (0, omega arith, refl)
every_type rr.Ns = (1, omega arith, refl)
every_type rr.Cname = (2, omega arith, refl)
every_type rr.Soa = (3, omega arith, refl)
every_type rr.Ptr = (4, omega arith, refl)
every_type rr.Hinfo = (5, omega arith, refl)
every_type rr.Mx = (6, omega arith, refl)
every_type rr.Txt = (7, omega arith, refl)
every_type rr.Aaaa = (8, omega arith, refl)
every_type rr.Srv = (9, omega arith, refl)
every_type rr.Dname = (10, omega arith, refl)
every_type rr.Caa = (11, omega arith, refl)

-- the pairs of a node are in the graph
pub pair_there : (graph : PlainGraph) (at : ℕ) (node : Node) (arm : Arm) (rtype : RrType) → slice_get graph.nodes at ≡ Some node
    → Contains node.arms arm → has_bit arm.types rtype ≡ true → Contains (pairs_of graph) (node.state, rtype)
pair_there graph at node arm rtype here has bit =
    flat_map_has node_pairs graph.nodes node (node.state, rtype) (item_there graph.nodes at node here)
    (flat_map_has (arm_pairs node.state) node.arms arm (node.state, rtype) has
    (map_has (λ t. (node.state, t)) (types_of arm) rtype (filter_has (has_bit arm.types) types rtype (every_type rtype) bit)))

module _ (setting : Setting) (query : Labels) (graph : PlainGraph) (rtype : RrType) (is : IsGraphOf setting query graph) where
  -- the states of a path with the type are in the graph with it
  abbrev Kept : Walk → Type 0
  Kept walk = (state : State) → Contains walk.states state → Contains (pairs_of graph) (state, rtype)

  abbrev KeepsRest : List ℕ → Type 0
  KeepsRest numbers = (at : ℕ) (walk : Walk) → HasType graph rtype at → path_from graph rtype numbers at ≡ Some walk → Kept walk

  -- a walk that begins in a node and goes on as another
  goes_on : (state : State) (hop : Hop) (later walk : Walk) → led_on state hop later ≡ walk → Contains (pairs_of graph) (state, rtype)
      → Kept later → Kept walk
  goes_on state hop later walk made first rest one has =
      elim (first_or_later state later.states one (subst (λ w. Contains w.states one) (sym made) has)) [
        | inl same ↦ subst (λ s. Contains (pairs_of graph) (s, rtype)) same first
        | inr behind ↦ rest one behind
      ]

  by_kind : (numbers : List ℕ) (state : State) (is_last : Bool) (branch : Option Branch) (walk : Walk)
      → by_branch (path_from graph rtype numbers) state is_last branch ≡ Some walk
      → ((hop : Hop) (to : ℕ) → branch ≡ Some (Go hop to) → HasType graph rtype to) → Contains (pairs_of graph) (state, rtype)
      → KeepsRest numbers → Kept walk
  by_kind numbers state is_last None walk e goes first rest = cc
  by_kind numbers state is_last (Some (Go hop to)) walk e goes first rest = by (path_from graph rtype numbers to) refl e where
    by : (later : Option Walk) → path_from graph rtype numbers to ≡ later → option_map (led_on state hop) later ≡ Some walk → Kept walk
    by None is_later e = cc
    by (Some later) is_later e =
        let made : led_on state hop later ≡ walk = cc in
        goes_on state hop later walk made first (rest to later (goes hop to refl) is_later)
  by_kind numbers state true (Some (End hop leaf)) walk e goes first rest =
      let made : record { states = state ∷ []; hops = option_to_list hop; leaf = leaf } ≡ walk = cc in
      λ one has. elim (first_or_later state [] one (subst (λ (w : Walk). Contains w.states one) (sym made) has)) [
        | inl same ↦ subst (λ s. Contains (pairs_of graph) (s, rtype)) same first
        | inr none ↦ absurd (none_in_nil one none)
      ]
  by_kind numbers state false (Some (End hop leaf)) walk e goes first rest = cc

  rest_kept : (numbers : List ℕ) → KeepsRest numbers
  rest_kept [] at walk typed e = cc
  rest_kept (number ∷ numbers) at walk (node, here, has) e =
      by (rest_kept numbers) (arm_of node rtype) refl has
      (sym (ap (node_walk (path_from graph rtype numbers) rtype number (length numbers == 0)) here) ∙ e)
    where
      by : KeepsRest numbers → (arm : Option Arm) → arm_of node rtype ≡ arm → is_some arm ≡ true
          → by_branch (path_from graph rtype numbers) node.state (length numbers == 0) (slice_get (option_map_or (λ arm. arm.branches) (arm_of node rtype) []) number) ≡ Some walk
          → Kept walk
      by rest None found some e = cc
      by rest (Some arm) found some e =
          let there = found_there (λ arm. has_bit arm.types rtype) node.arms arm found in
          let in_graph : IsArm graph at node arm = record { is_node = here; has_arm = there.0 } in
          by_kind numbers node.state (length numbers == 0) (slice_get arm.branches number) walk
          (sym (ap (λ found. by_branch (path_from graph rtype numbers) node.state (length numbers == 0) (slice_get (option_map_or (λ arm. arm.branches) found []) number)) found) ∙ e)
          (λ hop to same. is.closed at node arm rtype in_graph there.1 hop to (item_there arm.branches number (Go hop to) same))
          (pair_there graph at node arm rtype here there.0 there.1) rest

  -- the states of a walk of the query with the type are in the graph with it
  pub walk_kept : (numbers : List ℕ) (walk : Walk) → walk_along setting query rtype numbers ≡ Some walk → Kept walk
  walk_kept numbers walk e = by numbers (path_is_walk setting query graph rtype is numbers ∙ e) where
    by_start : (numbers : List ℕ) (number : ℕ) (start : Option ℕ) → slice_get graph.starts number ≡ start
        → option_and_then (path_from graph rtype numbers) start ≡ Some walk → Kept walk
    by_start numbers number None is_start e = cc
    by_start numbers number (Some at) is_start e =
        rest_kept numbers at walk (is.all_types at (item_there graph.starts number at is_start) rtype) e

    by : (numbers : List ℕ) → path_along graph rtype numbers ≡ Some walk → Kept walk
    by [] e = cc
    by (number ∷ numbers) e = by_start numbers number (slice_get graph.starts number) refl e

-- ---- no pair stands twice

-- the two aren't equal
abbrev pub Differ : {A : Type 0} → A → A → Type 0
Differ a b = a ≢ b

-- each of the twelve types stands at its place
place_is : (i : ℕ) (d : RrType) → i < 12 → place_of (slice_index_or types i d) ≡ i
place_is zero d lt = refl
place_is (suc zero) d lt = refl
place_is (suc (suc zero)) d lt = refl
place_is (suc (suc (suc zero))) d lt = refl
place_is (suc (suc (suc (suc zero)))) d lt = refl
place_is (suc (suc (suc (suc (suc zero))))) d lt = refl
place_is (suc (suc (suc (suc (suc (suc zero)))))) d lt = refl
place_is (suc (suc (suc (suc (suc (suc (suc zero))))))) d lt = refl
place_is (suc (suc (suc (suc (suc (suc (suc (suc zero)))))))) d lt = refl
place_is (suc (suc (suc (suc (suc (suc (suc (suc (suc zero))))))))) d lt = refl
place_is (suc (suc (suc (suc (suc (suc (suc (suc (suc (suc zero)))))))))) d lt = refl
place_is (suc (suc (suc (suc (suc (suc (suc (suc (suc (suc (suc zero))))))))))) d lt = refl
place_is (suc (suc (suc (suc (suc (suc (suc (suc (suc (suc (suc (suc i)))))))))))) d lt = absurd (omega arith)

-- so no type stands twice
types_differ : AllPairs Differ types
types_differ i j d lt within same =
    let below : j < 12 = within in
    let one = place_is i d (omega (arith, below, lt)) in
    let other = place_is j d below in
    let places : i ≡ j = sym one ∙ (ap place_of same ∙ other) in
    omega (arith, places, lt)

-- no pair of an arm stands twice
pub arm_differs : (state : State) (arm : Arm) → AllPairs Differ (arm_pairs state arm)
arm_differs state arm =
    let pair : RrType → State × RrType = λ t. (state, t) in
    pairs_of_images pair Differ (types_of arm)
    (AllPairs-filter (λ a b. Differ (pair a) (pair b)) (has_bit arm.types) types
    (λ i j d lt within same. types_differ i j d lt within (ap (λ (p : State × RrType). p.1) same)))

-- a pair of an arm has one of its types
record OfArm (state : State) (arm : Arm) (pair : State × RrType) : Type 0 where
  pub rtype : RrType
  pub has : has_bit arm.types rtype ≡ true
  pub state_is : state ≡ pair.0
  pub rtype_is : rtype ≡ pair.1

of_arm : (state : State) (arm : Arm) (pair : State × RrType) → Contains (arm_pairs state arm) pair → OfArm state arm pair
of_arm state arm pair has =
    let make : RrType → State × RrType = λ t. (state, t) in
    let from = from_map make (types_of arm) pair has in
    record {
      rtype = from.0;
      has = (from_filter (has_bit arm.types) types from.0 from.1).1;
      state_is = ap (λ (p : State × RrType). p.0) from.2;
      rtype_is = ap (λ (p : State × RrType). p.1) from.2;
    }

-- the pairs of a node differ, where its arms are apart
pub node_differs : (state : State) (arms : List Arm)
    → AllPairs (λ a b. (rtype : RrType) → has_bit a.types rtype ≡ true → has_bit b.types rtype ≡ false) arms
    → AllPairs Differ (flat_map (arm_pairs state) arms)
node_differs state arms apart =
    pairs_in_row Differ (arm_pairs state) arms (λ arm has. arm_differs state arm)
    (λ i j d lt within y z here there same.
    let one = of_arm state (slice_index_or arms i d) y here in
    let other = of_arm state (slice_index_or arms j d) z there in
    let types : one.rtype ≡ other.rtype = one.rtype_is ∙ (ap (λ (p : State × RrType). p.1) same ∙ sym other.rtype_is) in
    let none = apart i j d lt within one.rtype one.has in
    true≢false (sym other.has ∙ (ap (has_bit (slice_index_or arms j d).types) (sym types) ∙ none)))

-- and those of two nodes, where their states do
state_told : (node : Node) (pair : State × RrType) → Contains (node_pairs node) pair → node.state ≡ pair.0
state_told node pair has =
    let from = from_flat_map (arm_pairs node.state) node.arms pair has in
    (of_arm node.state from.0 pair from.2).state_is

-- no pair of state and type stands in the graph twice, if no two nodes have equal states
pub pairs_once : (setting : Setting) (query : Labels) (graph : PlainGraph) → IsGraphOf setting query graph
    → AllPairs (λ a b. a.state ≢ b.state) graph.nodes → AllPairs Differ (pairs_of graph)
pairs_once setting query graph is one_node =
    pairs_in_row Differ node_pairs graph.nodes
    (λ node has. let there = place_of_item graph.nodes node has in node_differs node.state node.arms (is.apart there.0 node there.1))
    (λ i j d lt within y z here there same.
    one_node i j d lt within
    (state_told (slice_index_or graph.nodes i d) y here
    ∙ (ap (λ (p : State × RrType). p.0) same ∙ sym (state_told (slice_index_or graph.nodes j d) z there))))

-- the pairs are those that the query reaches
pub pairs_exact : (config : Config) (rewrites : ℕ) (query : Labels) (graph : PlainGraph)
    → IsGraphOf (following config rewrites (server_names config)) query graph → IsExact config rewrites query graph
    → AreReached config rewrites query (pairs_of graph)
pairs_exact config rewrites query graph is exact =
    let setting = following config rewrites (server_names config) in
    record {
      once = pairs_once setting query graph is exact.one_node;
      all = λ pair. (
        λ has. exact.reached pair has,
        λ reached. walk_kept setting query graph pair.1 is reached.is_walk.0 reached.walk reached.is_walk.1 pair.0 reached.stands,
      );
    }
