-- The ends of the paths of a graph of a query are those of its walks.
use Rattle.std.proofs.Common.{◌≡◌, ℕ, zero, suc, ◌+◌, ◌≤◌, List, [], ◌∷◌, ◌++◌, map, length, Contains, Option, Some, None, is_some, true, refl, sym, ap, ◌∙◌, subst, inl, inr, arith}
use Rattle.std.specs.Prelude.{slice_get}
use Rattle.std.specs.List.{AllByRecursion, AllZip, flat_map, fold}
use Rattle.std.specs.Option.{option_map_or, option_to_list}
use Rattle.std.proofs.lemmas.List.{map-append}
use Rattle.dns_data.specs.Distinct.{distinct}
use Rattle.dns_data.specs.Name.{Labels}
use Rattle.dns_data.specs.RrType.{types}
use Rattle.dns_data.specs.TypeSet.{has_bit}
use Rattle.dns_data.specs.declared.rr_type.RrType.{RrType}
use Rattle.dns_data.proofs.Membership.{none_in_nil, has_first, has_later, first_or_later, from_map, from_flat_map}
use Rattle.dns_data.proofs.Searches.{found_there}
use Rattle.graph_form.specs.Graph.{PlainGraph, arm_of, branches_of}
use Rattle.graph_form.specs.GraphOf.{HasState, HasType, IsArm, IsGraphOf, TellsStep}
use Rattle.graph_form.specs.declared.node.Arm.{Arm}
use Rattle.graph_form.specs.declared.node.Branch.{Branch}
use Rattle.graph_form.specs.declared.node.Branch.TheVariants.{Go, End}
use Rattle.graph_form.specs.declared.node.Node.{Node}
use Rattle.graph_form.proofs.Paths.{same_item}
use Rattle.net_model.specs.Step.{Setting, next, start}
use Rattle.net_model.specs.Step as step
use Rattle.net_model.specs.Walk.{led_on, AreWalks}
use Rattle.net_model.specs.declared.walk.Hop.{Hop}
use Rattle.net_model.specs.declared.walk.State.{State}
use Rattle.net_model.specs.declared.walk.Walk.{Walk}
use Rattle.net_model.proofs.AllWalks.{LeadsTo, Settled, walks_by, walks_within}
use Rattle.net_model.proofs.RoundsExist.{query_settles}
use Rattle.net_model.proofs.WalkLists.{are_walks, total}
use Rattle.site_checks.specs.Ends.{AreEnds, end_eq, end_of, last_server}
use Rattle.site_checks.specs.Once.{with_new}
use Rattle.site_checks.specs.PathEnds.{ends_by, ends_from, ends_with, ends_within, node_ends, path_ends}
use Rattle.site_checks.specs.declared.views.TypedEnd.{TypedEnd}
use Rattle.site_checks.proofs.EqualEnds.{end_decides}
use Rattle.site_checks.proofs.GoingOn.{as_deep, flat_map_same, start_met}
use Rattle.site_checks.proofs.InOrder.{once}

-- ---- a walk ends where the rest of it does

-- the walk begins with a state
abbrev Begins : Walk → Type 0
Begins walk = (state : State) × (states : List State) × (walk.states ≡ state ∷ states)

walks_begin : (depth : ℕ) (setting : Setting) (rtype : RrType) (state : State) (walk : Walk) → Contains (walks_within depth setting rtype state) walk → Begins walk
walks_begin zero setting rtype state walk has = absurd (none_in_nil walk has)
walks_begin (suc depth) setting rtype state walk has =
    let from = from_flat_map (walks_by (walks_within depth setting rtype) state) (next setting rtype state) walk has in
    by from.0 from.2
  where
    by : (branch : step.Branch) → Contains (walks_by (walks_within depth setting rtype) state branch) walk → Begins walk
    by (step.Go hop to) among =
        let later = from_map (led_on state hop) (walks_within depth setting rtype to) walk among in
        (state, later.0.states, ap (λ (w : Walk). w.states) (sym later.2))
    by (step.End hop leaf) among =
        elim (first_or_later (record { states = state ∷ []; hops = option_to_list hop; leaf = leaf }) [] walk among) [
          | inl same ↦ (state, [], ap (λ (w : Walk). w.states) (sym same))
          | inr none ↦ absurd (none_in_nil walk none)
        ]

module _ (rtype : RrType) (state : State) (hop : Hop) where
  same_end : (walk : Walk) → Begins walk → end_of rtype (led_on state hop walk) ≡ end_of rtype walk
  same_end walk (first, states, is) =
      ap (λ (server : Labels). record { rtype = rtype; server = server; leaf = walk.leaf })
      (ap (λ (all : List State). last_server (state ∷ all)) is ∙ ap last_server (sym is))

  same_ends : (walks : List Walk) → ((walk : Walk) → Contains walks walk → Begins walk) → map (end_of rtype) (map (led_on state hop) walks) ≡ map (end_of rtype) walks
  same_ends [] begin = refl
  same_ends (walk ∷ walks) begin =
      ap (λ (end : TypedEnd). end ∷ map (end_of rtype) (map (led_on state hop) walks)) (same_end walk (begin walk (has_first walk walks)))
      ∙ ap (λ (ends : List TypedEnd). end_of rtype walk ∷ ends) (same_ends walks (λ w has. begin w (has_later walk walks w has)))

-- ---- the ends of a node and those of its state's walks

module _ (setting : Setting) (query : Labels) (graph : PlainGraph) (rtype : RrType) (is : IsGraphOf setting query graph) where
  -- what a node of that number and a state have in common
  abbrev SameEnds : ℕ → Type 0
  SameEnds depth = (at : ℕ) (state : State) → HasState graph at state → HasType graph rtype at
      → ends_within depth graph rtype at ≡ map (end_of rtype) (walks_within depth setting rtype state)

  by_steps : (depth : ℕ) (state : State) (branches : List Branch) (steps : List step.Branch) → SameEnds depth → AllZip (TellsStep graph) branches steps
      → ((hop : Hop) (to : ℕ) → Contains branches (Go hop to) → HasType graph rtype to)
      → flat_map (ends_by (ends_within depth graph rtype) rtype state) branches ≡ map (end_of rtype) (flat_map (walks_by (walks_within depth setting rtype) state) steps)
  by_steps depth state [] [] rest all typed = refl
  by_steps depth state [] (other ∷ steps) rest all typed = absurd all
  by_steps depth state (one ∷ branches) [] rest all typed = absurd all
  by_steps depth state (one ∷ branches) (other ∷ steps) rest all typed =
      ap (λ (ends : List TypedEnd). ends ++ flat_map (ends_by (ends_within depth graph rtype) rtype state) branches) (by one all.0 (λ hop to same. typed hop to (subst (Contains (one ∷ branches)) same (has_first one branches))))
      ∙ ap (λ (ends : List TypedEnd). map (end_of rtype) (walks_by (walks_within depth setting rtype) state other) ++ ends)
      (by_steps depth state branches steps rest all.1 (λ hop to has. typed hop to (has_later one branches (Go hop to) has)))
      ∙ sym (map-append (end_of rtype) (walks_by (walks_within depth setting rtype) state other) (flat_map (walks_by (walks_within depth setting rtype) state) steps))
    where
      by : (branch : Branch) → TellsStep graph branch other → ((hop : Hop) (to : ℕ) → branch ≡ Go hop to → HasType graph rtype to)
          → ends_by (ends_within depth graph rtype) rtype state branch ≡ map (end_of rtype) (walks_by (walks_within depth setting rtype) state other)
      by (Go hop to) (next_state, tells, stands) goes =
          rest to next_state stands (goes hop to refl)
          ∙ sym (same_ends rtype state hop (walks_within depth setting rtype next_state) (walks_begin depth setting rtype next_state))
          ∙ ap (λ (b : step.Branch). map (end_of rtype) (walks_by (walks_within depth setting rtype) state b)) (sym tells)
      by (End hop leaf) tells goes = ap (λ (b : step.Branch). map (end_of rtype) (walks_by (walks_within depth setting rtype) state b)) (sym tells)

  node_ends_so : (depth : ℕ) → SameEnds depth
  node_ends_so zero at state stands typed = refl
  node_ends_so (suc depth) at state (node, here, has) (typed_node, there, some) =
      ap (node_ends (ends_within depth graph rtype) rtype) here
      ∙ by (node_ends_so depth) (arm_of node rtype) refl
      (subst (λ (n : Node). is_some (arm_of n rtype) ≡ true) (same_item (slice_get graph.nodes at) typed_node node there here) some)
      ∙ ap (λ (s : State). map (end_of rtype) (walks_within (suc depth) setting rtype s)) has
    where
      by : SameEnds depth → (arm : Option Arm) → arm_of node rtype ≡ arm → is_some arm ≡ true
          → flat_map (ends_by (ends_within depth graph rtype) rtype node.state) (branches_of node rtype) ≡ map (end_of rtype) (walks_within (suc depth) setting rtype node.state)
      by rest None e none = cc
      by rest (Some arm) e known =
          let found = found_there (λ (a : Arm). has_bit a.types rtype) node.arms arm e in
          let in_graph : IsArm graph at node arm = record { is_node = here; has_arm = found.0 } in
          ap (λ (o : Option Arm). flat_map (ends_by (ends_within depth graph rtype) rtype node.state) (option_map_or (λ (a : Arm). a.branches) o [])) e
          ∙ by_steps depth node.state arm.branches (next setting rtype node.state) rest (is.steps at node arm rtype in_graph found.1) (is.closed at node arm rtype in_graph found.1)

  starts_so : (depth : ℕ) (starts : List ℕ) (states : List State) → AllZip (HasState graph) starts states → ((at : ℕ) → Contains starts at → HasType graph rtype at)
      → flat_map (ends_within depth graph rtype) starts ≡ map (end_of rtype) (flat_map (walks_within depth setting rtype) states)
  starts_so depth [] [] all typed = refl
  starts_so depth [] (state ∷ states) all typed = absurd all
  starts_so depth (at ∷ starts) [] all typed = absurd all
  starts_so depth (at ∷ starts) (state ∷ states) all typed =
      ap (λ (ends : List TypedEnd). ends ++ flat_map (ends_within depth graph rtype) starts) (node_ends_so depth at state all.0 (typed at (has_first at starts)))
      ∙ ap (λ (ends : List TypedEnd). map (end_of rtype) (walks_within depth setting rtype state) ++ ends) (starts_so depth starts states all.1 (λ other has. typed other (has_later at starts other has)))
      ∙ sym (map-append (end_of rtype) (walks_within depth setting rtype state) (flat_map (walks_within depth setting rtype) states))

-- ---- all walks of a query

module _ (setting : Setting) (rtype : RrType) where
  -- where no walk from a state is longer, more states allowed give no more walks
  branches_stay : (depth deeper : ℕ) (state : State) → ((to : State) → Settled depth setting rtype to → walks_within deeper setting rtype to ≡ walks_within depth setting rtype to)
      → (branches : List step.Branch) → AllByRecursion (LeadsTo (Settled depth setting rtype)) branches
      → flat_map (walks_by (walks_within deeper setting rtype) state) branches ≡ flat_map (walks_by (walks_within depth setting rtype) state) branches
  branches_stay depth deeper state same [] all = refl
  branches_stay depth deeper state same (step.Go hop to ∷ branches) all =
      ap (λ (walks : List Walk). map (led_on state hop) walks ++ flat_map (walks_by (walks_within deeper setting rtype) state) branches) (same to all.0)
      ∙ ap (λ (walks : List Walk). map (led_on state hop) (walks_within depth setting rtype to) ++ walks) (branches_stay depth deeper state same branches all.1)
  branches_stay depth deeper state same (step.End hop leaf ∷ branches) all =
      ap (λ (walks : List Walk). record { states = state ∷ []; hops = option_to_list hop; leaf = leaf } ∷ walks) (branches_stay depth deeper state same branches all.1)

  walks_stay : (depth deeper : ℕ) → depth ≤ deeper → (state : State) → Settled depth setting rtype state → walks_within deeper setting rtype state ≡ walks_within depth setting rtype state
  walks_stay zero deeper more state settled = absurd settled
  walks_stay (suc depth) zero more state settled = absurd (omega arith)
  walks_stay (suc depth) (suc deeper) more state settled =
      branches_stay depth deeper state (λ to less. walks_stay depth deeper (omega arith) to less) (next setting rtype state) settled

  all_stay : (depth deeper : ℕ) → depth ≤ deeper → (states : List State) → AllByRecursion (Settled depth setting rtype) states
      → flat_map (walks_within deeper setting rtype) states ≡ flat_map (walks_within depth setting rtype) states
  all_stay depth deeper more [] all = refl
  all_stay depth deeper more (state ∷ states) all =
      ap (λ (walks : List Walk). walks ++ flat_map (walks_within deeper setting rtype) states) (walks_stay depth deeper more state all.0)
      ∙ ap (λ (walks : List Walk). walks_within depth setting rtype state ++ walks) (all_stay depth deeper more states all.1)

module _ (setting : Setting) (rtype : RrType) (query : Labels) where
  -- the walks of the query
  abbrev pub all_walks : List Walk
  all_walks = total setting rtype (query_settles setting rtype query).0 query

  -- the listed walks are all walks of the query
  pub are_all : AreWalks setting query rtype all_walks
  are_all = are_walks setting rtype (query_settles setting rtype query).0 query all_walks refl (query_settles setting rtype query).1

module _ (setting : Setting) (query : Labels) (graph : PlainGraph) (is : IsGraphOf setting query graph) where
  -- the ends of all paths with a type are those of all walks with it
  with_type : (rtype : RrType) → ends_with graph rtype ≡ map (end_of rtype) (all_walks setting rtype query)
  with_type rtype =
      let settled = query_settles setting rtype query in
      flat_map_same (ends_from graph rtype) (ends_within (settled.0 + length graph.nodes) graph rtype) graph.starts
      (λ at has. as_deep graph rtype settled.0 at (start_met setting query graph at is has))
      ∙ starts_so setting query graph rtype is (settled.0 + length graph.nodes) graph.starts (start setting.config query) is.starts (λ at has. is.all_types at has rtype)
      ∙ ap (map (end_of rtype)) (all_stay setting rtype settled.0 (settled.0 + length graph.nodes) (omega arith) (start setting.config query) settled.1)

  -- the ends of the graph's paths are those of all walks of the query
  pub all_ends : AreEnds setting query (fold (with_new end_eq) [] (path_ends graph))
  all_ends = record {
    walks = λ rtype. all_walks setting rtype query;
    are_walks = λ rtype. are_all setting rtype query;
    are_ends =
        once end_eq end_decides (path_ends graph)
        ∙ ap (distinct end_eq) (flat_map_same (ends_with graph) (λ rtype. map (end_of rtype) (all_walks setting rtype query)) types (λ rtype has. with_type rtype));
  }
