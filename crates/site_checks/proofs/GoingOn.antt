-- From a node that walks come to, paths go on to nodes that they come to, and with later states; so no path is endless.
use Rattle.std.proofs.Common.{◌≡◌, ℕ, zero, suc, ◌+◌, ◌<◌, true, List, [], ◌∷◌, ◌++◌, length, get_or, Contains, Option, Some, None, refl, sym, ap, ◌∙◌, subst, inl, inr, arith}
use Rattle.std.specs.Prelude.{◌⊎◌, slice_get}
use Rattle.std.specs.List.{flat_map}
use Rattle.std.specs.Option.{option_map_or}
use Rattle.std.proofs.lemmas.Option.{slice_get_within, slice_get-get_or}
use Rattle.dns_data.specs.Name.{Labels}
use Rattle.dns_data.specs.declared.rr_type.RrType.{RrType}
use Rattle.dns_data.proofs.Membership.{has_first, has_later, from_map}
use Rattle.graph_form.specs.Graph.{HasBranch, PlainGraph, branches_of}
use Rattle.graph_form.specs.GraphOf.{HasState, IsGraphOf}
use Rattle.graph_form.specs.declared.node.Branch.{Branch}
use Rattle.graph_form.specs.declared.node.Branch.TheVariants.{Go, End}
use Rattle.graph_form.specs.declared.node.Node.{Node}
use Rattle.graph_form.proofs.NoCircle.{Earlier, told_step}
use Rattle.graph_form.proofs.Paths.{same_item}
use Rattle.graph_form.proofs.Places.{PairAt, pair_at, item_there, place_of_item}
use Rattle.net_model.specs.Step.{Setting, arrived, start, next}
use Rattle.net_model.specs.declared.walk.Hop.{Hop}
use Rattle.net_model.specs.declared.walk.Hop.TheVariants.{Refer, Rewrite}
use Rattle.net_model.specs.declared.walk.State.{State}
use Rattle.net_model.proofs.StepBounds.{IsNear, StepsOn, BranchStepsOn, next_steps}
use Rattle.net_model.proofs.WalkEnds.{item}
use Rattle.site_checks.specs.PathEnds.{IsMet, comes_before, ends_by, ends_from, ends_within, left_after, node_ends, nodes_after}
use Rattle.site_checks.specs.declared.views.TypedEnd.{TypedEnd}
use Rattle.site_checks.proofs.NodesAfter.{is_before, fewer_after, fewer_than_all}

-- ---- where walks come to

near_at_start : (setting : Setting) (query : Labels) (state : State) → Contains (start setting.config query) state → IsNear setting state
near_at_start setting query state has =
    let from = from_map (arrived setting.config query true 0 None) setting.config.tops state has in
    let cut : state.cut ≡ 0 = ap (λ (s : State). s.cut) (sym from.2) in
    λ zone nearest. omega (arith, cut)

-- walks come to each start of the graph
pub start_met : (setting : Setting) (query : Labels) (graph : PlainGraph) (at : ℕ) → IsGraphOf setting query graph → Contains graph.starts at → IsMet graph at
start_met setting query graph at is has =
    let place = place_of_item graph.starts at has in
    by place.0 place.1 (pair_at (HasState graph) graph.starts (start setting.config query) is.starts place.0)
  where
    by : (k : ℕ) → slice_get graph.starts k ≡ Some at
        → ((slice_get graph.starts k ≡ None) × (slice_get (start setting.config query) k ≡ None))
        ⊎ PairAt (HasState graph) graph.starts (start setting.config query) k → IsMet graph at
    by k there (inl none) = let f = none.0 in cc
    by k there (inr pair) =
        let same : pair.one ≡ at = same_item (slice_get graph.starts k) pair.one at pair.at_one there in
        let stands : HasState graph at pair.other = subst (λ (n : ℕ). HasState graph n pair.other) same pair.paired in
        record {
          setting = setting;
          query = query;
          of_query = is;
          node = stands.0;
          here = stands.1;
          near = subst (IsNear setting) (sym stands.2) (near_at_start setting query pair.other (item_there (start setting.config query) k pair.other pair.at_other));
        }

advanced : (setting : Setting) (a b : State) (hop : Hop) → StepsOn setting a hop b → Earlier a b
advanced setting a b (Refer cut) steps = inr (sym steps.advances.0, steps.advances.1)
advanced setting a b (Rewrite place by_dname name) steps = inl (omega (arith, steps.advances.0))

-- a node with a later state
record LaterNode (setting : Setting) (graph : PlainGraph) (state : State) (to : ℕ) : Type 0 where
  pub node : Node
  pub here : slice_get graph.nodes to ≡ Some node
  pub near : IsNear setting node.state
  pub before : comes_before state node.state ≡ true

later_node : (setting : Setting) (query : Labels) (graph : PlainGraph) (rtype : RrType) (is : IsGraphOf setting query graph) (at number to : ℕ) (hop : Hop) (node : Node)
    → HasBranch graph rtype at number node (Go hop to) → IsNear setting node.state → LaterNode setting graph node.state to
later_node setting query graph rtype is at number to hop node has near =
    let told = told_step setting query graph rtype is at number node (Go hop to) has in
    let branch = item (BranchStepsOn setting node.state) (next setting rtype node.state) number told.0 (next_steps setting node.state rtype near) told.1 in
    let step : StepsOn setting node.state hop told.2.0 = subst (BranchStepsOn setting node.state) told.2.1 branch in
    let stands : HasState graph to told.2.0 = told.2.2 in
    record {
      node = stands.0;
      here = stands.1;
      near = subst (IsNear setting) (sym stands.2) step.near;
      before = subst (λ (s : State). comes_before node.state s ≡ true) (sym stands.2) (is_before node.state told.2.0 (advanced setting node.state told.2.0 hop step));
    }

-- how many nodes are left after a node
left_is : (graph : PlainGraph) (at : ℕ) (node : Node) → slice_get graph.nodes at ≡ Some node → left_after graph at ≡ nodes_after graph.nodes node.state
left_is graph at node here = ap (λ (found : Option Node). option_map_or (λ (n : Node). nodes_after graph.nodes n.state) found 0) here

-- walks come to the node to which a branch goes on, with fewer nodes left
pub record Onward (graph : PlainGraph) (at to : ℕ) : Type 0 where
  pub met : IsMet graph to
  pub fewer : left_after graph to < left_after graph at
  pub within : to < length graph.nodes

-- a branch from a node that walks come to goes on to a node that they come to, with fewer nodes left
pub goes_on : (graph : PlainGraph) (rtype : RrType) (at number to : ℕ) (hop : Hop) (met : IsMet graph at) → HasBranch graph rtype at number met.node (Go hop to) → Onward graph at to
goes_on graph rtype at number to hop met has =
    let later = later_node met.setting met.query graph rtype met.of_query at number to hop met.node has met.near in
    let less = fewer_after met.node.state later.node.state later.before graph.nodes later.node (item_there graph.nodes to later.node later.here) refl in
    record {
      met = record { setting = met.setting; query = met.query; of_query = met.of_query; node = later.node; here = later.here; near = later.near };
      fewer = omega (arith, left_is graph at met.node met.here, left_is graph to later.node later.here, less);
      within = slice_get_within graph.nodes to later.node later.here;
    }

few_left : (graph : PlainGraph) (at : ℕ) (met : IsMet graph at) → left_after graph at < length graph.nodes
few_left graph at met =
    omega (arith, left_is graph at met.node met.here, fewer_than_all graph.nodes met.node (item_there graph.nodes at met.node met.here))

-- ---- the ends of a node are those of its branches

-- two functions that agree on the items of a list give the same of the list
pub flat_map_same : {X Y : Type 0} (f g : X → List Y) (xs : List X) → ((x : X) → Contains xs x → f x ≡ g x) → flat_map f xs ≡ flat_map g xs
flat_map_same f g [] same = refl
flat_map_same f g (x ∷ xs) same =
    ap (λ ys. ys ++ flat_map f xs) (same x (has_first x xs))
    ∙ ap (λ ys. g x ++ ys) (flat_map_same f g xs (λ y has. same y (has_later x xs y has)))

module _ (graph : PlainGraph) (rtype : RrType) where
  node_at : (depth at : ℕ) (met : IsMet graph at)
      → ends_within (suc depth) graph rtype at ≡ flat_map (ends_by (ends_within depth graph rtype) rtype met.node.state) (branches_of met.node rtype)
  node_at depth at met = ap (node_ends (ends_within depth graph rtype) rtype) met.here

  by_branches : (f g : ℕ → List TypedEnd) (at : ℕ) (met : IsMet graph at)
      → ((to : ℕ) → IsMet graph to → left_after graph to < left_after graph at → f to ≡ g to)
      → flat_map (ends_by f rtype met.node.state) (branches_of met.node rtype) ≡ flat_map (ends_by g rtype met.node.state) (branches_of met.node rtype)
  by_branches f g at met same = flat_map_same (ends_by f rtype met.node.state) (ends_by g rtype met.node.state) (branches_of met.node rtype) each where
    each : (branch : Branch) → Contains (branches_of met.node rtype) branch → ends_by f rtype met.node.state branch ≡ ends_by g rtype met.node.state branch
    each (End hop leaf) has = refl
    each (Go hop to) has =
        let place = place_of_item (branches_of met.node rtype) (Go hop to) has in
        let on = goes_on graph rtype at place.0 to hop met (record { here = met.here; there = place.1 }) in
        same to on.met on.fewer

  -- the ends from a node that walks come to are the same for any two depths that are larger than the nodes left
  pub stable : (depth deeper at : ℕ) → left_after graph at < depth → left_after graph at < deeper → IsMet graph at
      → ends_within depth graph rtype at ≡ ends_within deeper graph rtype at
  stable zero deeper at some more met = absurd (omega arith)
  stable (suc depth) zero at some more met = absurd (omega arith)
  stable (suc depth) (suc deeper) at some more met =
      node_at depth at met
      ∙ by_branches (ends_within depth graph rtype) (ends_within deeper graph rtype) at met
      (λ to also fewer. stable depth deeper to (omega arith) (omega arith) also)
      ∙ sym (node_at deeper at met)

  -- the ends from a node that walks come to are the same however many nodes more are allowed
  pub as_deep : (more at : ℕ) → IsMet graph at → ends_from graph rtype at ≡ ends_within (more + length graph.nodes) graph rtype at
  as_deep more at met = stable (length graph.nodes) (more + length graph.nodes) at (few_left graph at met) (omega (arith, few_left graph at met)) met

  -- the ends of the branches of a node that walks come to are the ends from the node
  pub ends_are : (at : ℕ) (met : IsMet graph at)
      → flat_map (ends_by (ends_from graph rtype) rtype met.node.state) (branches_of met.node rtype) ≡ ends_from graph rtype at
  ends_are at met = by (length graph.nodes) refl where
    by : (size : ℕ) → length graph.nodes ≡ size
        → flat_map (ends_by (ends_from graph rtype) rtype met.node.state) (branches_of met.node rtype) ≡ ends_from graph rtype at
    by zero none = absurd (omega (arith, few_left graph at met))
    by (suc size) is =
        by_branches (ends_from graph rtype) (ends_within size graph rtype) at met
        (λ to also fewer. stable (length graph.nodes) size to (few_left graph to also) (omega (arith, few_left graph at met)) also)
        ∙ sym (node_at size at met)
        ∙ ap (λ (n : ℕ). ends_within n graph rtype at) (sym is)

-- ---- at the calls

module _ (graph : PlainGraph) (rtype : RrType) (at : ℕ) (met : IsMet graph at) (node : Node) (branches : List Branch)
    (here : slice_get graph.nodes at ≡ Some node) (are : branches ≡ branches_of node rtype) where
  same_node : node ≡ met.node
  same_node = same_item (slice_get graph.nodes at) node met.node here met.here

  -- a branch that goes on from a node that walks come to leads on to such a node, with fewer nodes left
  pub on_from : (i to : ℕ) (hop : Hop) (branch : Branch) → i < length branches → branch ≡ get_or branches i branch → branch ≡ Go hop to → Onward graph at to
  on_from i to hop branch within is goes =
      goes_on graph rtype at i to hop met (record {
        here = met.here;
        there =
            ap (λ (n : Node). slice_get (branches_of n rtype) i) (sym same_node)
            ∙ ap (λ (all : List Branch). slice_get all i) (sym are)
            ∙ slice_get-get_or branches i branch within
            ∙ ap (λ (b : Branch). Some b) (sym is ∙ goes);
      })

  -- the ends of all branches of a node are those of the node
  pub whole_node : flat_map (ends_by (ends_from graph rtype) rtype node.state) branches ≡ ends_from graph rtype at
  whole_node =
      ap (flat_map (ends_by (ends_from graph rtype) rtype node.state)) are
      ∙ ap (λ (n : Node). flat_map (ends_by (ends_from graph rtype) rtype n.state) (branches_of n rtype)) same_node
      ∙ ends_are graph rtype at met
