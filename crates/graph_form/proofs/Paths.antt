-- The paths of a graph of a query are its walks.
use Rattle.std.proofs.Common.{◌≡◌, ℕ, true, List, [], ◌∷◌, length, refl, sym, ap, ◌∙◌, subst, ◌==◌, inl, inr, Some, None}
use Rattle.std.specs.Prelude.{◌⊎◌, Contains, slice_get, Option, is_some, option_map, option_and_then}
use Rattle.std.specs.Option.{option_map_or}
use Rattle.dns_data.specs.Name.{Labels}
use Rattle.dns_data.specs.TypeSet.{has_bit}
use Rattle.dns_data.specs.declared.rr_type.RrType.{RrType}
use Rattle.dns_data.proofs.Searches.{found_there}
use Rattle.net_model.specs.Step.{Setting, start, next}
use Rattle.net_model.specs.Step as step
use Rattle.net_model.specs.Walk.{led_on, branched, walk_from, walk_along}
use Rattle.net_model.specs.declared.walk.Hop.{Hop}
use Rattle.net_model.specs.declared.walk.State.{State}
use Rattle.graph_form.specs.Graph.{PlainGraph, arm_of, by_branch, node_walk, path_from, path_along}
use Rattle.graph_form.specs.GraphOf.{IsArm, HasState, HasType, TellsStep, IsGraphOf}
use Rattle.graph_form.specs.declared.node.Arm.{Arm}
use Rattle.graph_form.specs.declared.node.Branch.{Branch}
use Rattle.graph_form.specs.declared.node.Branch.TheVariants.{Go, End}
use Rattle.graph_form.specs.declared.node.Node.{Node}
use Rattle.graph_form.proofs.Places.{PairAt, pair_at}

-- two values that the same option has are equal
pub same_item : {A : Type 0} (found : Option A) (x y : A) → found ≡ Some x → found ≡ Some y → x ≡ y
same_item found x y one other = cc

module _ (setting : Setting) (query : Labels) (graph : PlainGraph) (rtype : RrType) (is : IsGraphOf setting query graph) where
  -- the rest of paths from a node is that of walks from its state
  abbrev SameRest : List ℕ → Type 0
  SameRest numbers = (at : ℕ) (node : Node) → slice_get graph.nodes at ≡ Some node → is_some (arm_of node rtype) ≡ true
      → path_from graph rtype numbers at ≡ walk_from setting rtype numbers node.state

  -- a branch of an arm and the branch of a state that it tells give one walk
  one_walk : (numbers : List ℕ) (state : State) (one : Branch) (other : step.Branch) → TellsStep graph one other
      → ((hop : Hop) (to : ℕ) → one ≡ Go hop to → HasType graph rtype to) → SameRest numbers
      → by_branch (path_from graph rtype numbers) state (length numbers == 0) (Some one)
      ≡ branched state (length numbers == 0) (walk_from setting rtype numbers) (Some other)
  one_walk numbers state (Go hop to) other (next_state, tells, (node, here, has)) goes rest =
      let typed = goes hop to refl in
      let same : typed.0 ≡ node = same_item (slice_get graph.nodes to) typed.0 node typed.1 here in
      let later = rest to node here (subst (λ n. is_some (arm_of n rtype) ≡ true) same typed.2) in
      ap (option_map (led_on state hop)) (later ∙ ap (walk_from setting rtype numbers) has)
      ∙ sym (ap (λ b. branched state (length numbers == 0) (walk_from setting rtype numbers) (Some b)) tells)
  one_walk numbers state (End hop leaf) other tells goes rest =
      sym (ap (λ b. branched state (length numbers == 0) (walk_from setting rtype numbers) (Some b)) tells)

  -- the walks by the branch with a number
  by_number : (numbers : List ℕ) (state : State) (branches : List Branch) (number : ℕ)
      → ((slice_get branches number ≡ None) × (slice_get (next setting rtype state) number ≡ None))
      ⊎ PairAt (TellsStep graph) branches (next setting rtype state) number
      → ((hop : Hop) (to : ℕ) → Contains branches (Go hop to) → HasType graph rtype to) → SameRest numbers
      → by_branch (path_from graph rtype numbers) state (length numbers == 0) (slice_get branches number)
      ≡ branched state (length numbers == 0) (walk_from setting rtype numbers) (slice_get (next setting rtype state) number)
  by_number numbers state branches number (inl none) goes rest =
      ap (by_branch (path_from graph rtype numbers) state (length numbers == 0)) none.0
      ∙ sym (ap (branched state (length numbers == 0) (walk_from setting rtype numbers)) none.1)
  by_number numbers state branches number (inr pair) goes rest =
      ap (by_branch (path_from graph rtype numbers) state (length numbers == 0)) pair.at_one
      ∙ (one_walk numbers state pair.one pair.other pair.paired
      (λ hop to same. goes hop to (subst (Contains branches) same pair.has)) rest
      ∙ sym (ap (branched state (length numbers == 0) (walk_from setting rtype numbers)) pair.at_other))

  -- what numbers lead along from a node with the type is what they lead along from its state
  pub rest_is_walk : (numbers : List ℕ) → SameRest numbers
  rest_is_walk [] at node here has = refl
  rest_is_walk (number ∷ numbers) at node here has =
      ap (node_walk (path_from graph rtype numbers) rtype number (length numbers == 0)) here
      ∙ by (rest_is_walk numbers) (arm_of node rtype) refl has
    where
      by : SameRest numbers → (arm : Option Arm) → arm_of node rtype ≡ arm → is_some arm ≡ true
          → by_branch (path_from graph rtype numbers) node.state (length numbers == 0) (slice_get (option_map_or (λ arm. arm.branches) (arm_of node rtype) []) number)
          ≡ branched node.state (length numbers == 0) (walk_from setting rtype numbers) (slice_get (next setting rtype node.state) number)
      by rest None e some = cc
      by rest (Some arm) e some =
          let found = found_there (λ arm. has_bit arm.types rtype) node.arms arm e in
          let in_graph : IsArm graph at node arm = record { is_node = here; has_arm = found.0 } in
          ap (λ found. by_branch (path_from graph rtype numbers) node.state (length numbers == 0) (slice_get (option_map_or (λ arm. arm.branches) found []) number)) e
          ∙ by_number numbers node.state arm.branches number
          (pair_at (TellsStep graph) arm.branches (next setting rtype node.state) (is.steps at node arm rtype in_graph found.1) number)
          (is.closed at node arm rtype in_graph found.1) rest

  -- numbers lead from the graph's starts along the walk along which they lead from the query's start states
  pub path_is_walk : (numbers : List ℕ) → path_along graph rtype numbers ≡ walk_along setting query rtype numbers
  path_is_walk [] = refl
  path_is_walk (number ∷ numbers) = by (pair_at (HasState graph) graph.starts (start setting.config query) is.starts number) where
    by : ((slice_get graph.starts number ≡ None) × (slice_get (start setting.config query) number ≡ None))
        ⊎ PairAt (HasState graph) graph.starts (start setting.config query) number
        → option_and_then (path_from graph rtype numbers) (slice_get graph.starts number)
        ≡ option_and_then (walk_from setting rtype numbers) (slice_get (start setting.config query) number)
    by (inl none) =
        ap (option_and_then (path_from graph rtype numbers)) none.0 ∙ sym (ap (option_and_then (walk_from setting rtype numbers)) none.1)
    by (inr pair) =
        let typed = is.all_types pair.one pair.has rtype in
        let same : typed.0 ≡ pair.paired.0 = same_item (slice_get graph.nodes pair.one) typed.0 pair.paired.0 typed.1 pair.paired.1 in
        let has : is_some (arm_of pair.paired.0 rtype) ≡ true = subst (λ n. is_some (arm_of n rtype) ≡ true) same typed.2 in
        ap (option_and_then (path_from graph rtype numbers)) pair.at_one
        ∙ (rest_is_walk numbers pair.one pair.paired.0 pair.paired.1 has
        ∙ (ap (walk_from setting rtype numbers) pair.paired.2 ∙ sym (ap (option_and_then (walk_from setting rtype numbers)) pair.at_other)))
