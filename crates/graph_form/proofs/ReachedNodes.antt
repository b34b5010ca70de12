-- In an exact graph of a query each branch of a node with a type stands on a walk with this type, and each walk ends by
-- one.
use Rattle.std.proofs.Common.{◌≡◌, ℕ, ◌<◌, List, [], ◌∷◌, ◌++◌, get_or, refl, sym, ap, ◌∙◌, subst, inl, inr, Some, None}
use Rattle.std.specs.Prelude.{◌⊎◌, Contains, slice_get, Option, option_map, option_and_then}
use Rattle.std.specs.Option.{unwrap_or}
use Rattle.std.proofs.lemmas.Bool.{cases_order}
use Rattle.std.proofs.lemmas.Option.{slice_get_within, unwrap_or-slice_get}
use Rattle.dns_data.specs.Name.{Labels}
use Rattle.dns_data.specs.declared.rr_type.RrType.{RrType}
use Rattle.dns_data.proofs.Membership.{none_in_nil, first_or_later}
use Rattle.net_model.specs.Step.{Setting}
use Rattle.net_model.specs.Walk.{IsWalk, led_on}
use Rattle.net_model.specs.declared.walk.Hop.{Hop}
use Rattle.net_model.specs.declared.walk.Leaf.{Leaf}
use Rattle.net_model.specs.declared.walk.State.{State}
use Rattle.net_model.specs.declared.walk.Walk.{Walk}
use Rattle.graph_form.specs.Graph.{HasBranch, PlainGraph, path_from, path_along}
use Rattle.graph_form.specs.GraphOf.{IsExactIn, IsGraphOf}
use Rattle.graph_form.specs.declared.node.Branch.{Branch}
use Rattle.graph_form.specs.declared.node.Branch.TheVariants.{Go, End}
use Rattle.graph_form.specs.declared.node.Node.{Node}
use Rattle.graph_form.proofs.NoCircle.{of_arm}
use Rattle.graph_form.proofs.Paths.{path_is_walk}
use Rattle.graph_form.proofs.Reached.{pair_there}
use Rattle.graph_form.proofs.TakenPaths.{ended, ends_at_once, ends_later, path_by, path_parts, EndsAs, GoesOn, EndsSo}
use Rattle.graph_form.proofs.WalksLed.{behind, behind_nothing}

-- a walk behind others, and one state and hop in front of all
behind_first : (state : State) (hop : Hop) (states : List State) (hops : List Hop) (walk : Option Walk)
    → option_map (led_on state hop) (option_map (behind states hops) walk) ≡ option_map (behind (state ∷ states) (hop ∷ hops)) walk
behind_first state hop states hops None = refl
behind_first state hop states hops (Some walk) = refl

module _ (graph : PlainGraph) (rtype : RrType) where
  -- ---- how a path ends

  -- the branch by which a walk ends, and its node
  pub record EndOf (walk : Walk) : Type 0 where
    pub at : ℕ
    pub number : ℕ
    pub node : Node
    pub hop : Option Hop
    pub leaf : Leaf
    pub has : HasBranch graph rtype at number node (End hop leaf)
    pub ends : EndsAs walk node.state hop leaf
    pub open ends use *

  -- the walk of the rest of a path ends by a branch of a node
  pub end_of_rest : (numbers : List ℕ) (at : ℕ) (walk : Walk) → path_from graph rtype numbers at ≡ Some walk → EndOf walk
  end_of_rest [] at walk e = cc
  end_of_rest (number ∷ numbers) at walk e = by (path_parts graph rtype numbers at number walk e) (λ to later goes. end_of_rest numbers to later goes) where
    goes_on : (on : GoesOn graph rtype numbers at number walk) → EndOf on.later → EndOf (led_on on.node.state on.hop on.later)
    goes_on on end =
        record {
          at = end.at;
          number = end.number;
          node = end.node;
          hop = end.hop;
          leaf = end.leaf;
          has = end.has;
          ends = ends_later on.node.state on.hop on.later end.node.state end.hop end.leaf end.ends;
        }

    ends_here : (end : EndsSo graph rtype numbers at number walk) → EndOf (ended end.node.state end.hop end.leaf)
    ends_here end =
        record { at = at; number = number; node = end.node; hop = end.hop; leaf = end.leaf; has = end.has; ends = ends_at_once end.node.state end.hop end.leaf }

    by : GoesOn graph rtype numbers at number walk ⊎ EndsSo graph rtype numbers at number walk
        → ((to : ℕ) (later : Walk) → path_from graph rtype numbers to ≡ Some later → EndOf later) → EndOf walk
    by (inl on) rest = subst EndOf on.made (goes_on on (rest on.to on.later on.goes))
    by (inr end) rest = subst EndOf end.made (ends_here end)

  -- the walk of a path ends by a branch of a node
  pub end_of_path : (numbers : List ℕ) (walk : Walk) → path_along graph rtype numbers ≡ Some walk → EndOf walk
  end_of_path [] walk e = cc
  end_of_path (number ∷ numbers) walk e = by (slice_get graph.starts number) e where
    by : (start : Option ℕ) → option_and_then (path_from graph rtype numbers) start ≡ Some walk → EndOf walk
    by None e = cc
    by (Some at) e = end_of_rest numbers at walk e

  -- ---- how a path comes to a state

  -- numbers that lead from a node to one with the state
  pub record LeadsTo (start : ℕ) (state : State) : Type 0 where
    pub numbers : List ℕ
    pub at : ℕ
    pub node : Node
    pub here : slice_get graph.nodes at ≡ Some node
    pub state_is : node.state ≡ state
    pub states : List State
    pub hops : List Hop
    pub leads : (rest : List ℕ) → path_from graph rtype (numbers ++ rest) start ≡ option_map (behind states hops) (path_from graph rtype rest at)

  -- the node itself
  itself : (start : ℕ) (node : Node) (state : State) → slice_get graph.nodes start ≡ Some node → node.state ≡ state → LeadsTo start state
  itself start node state here is =
      record {
        numbers = [];
        at = start;
        node = node;
        here = here;
        state_is = is;
        states = [];
        hops = [];
        leads = λ rest. behind_nothing (path_from graph rtype rest start);
      }

  further : (start number to : ℕ) (node : Node) (hop : Hop) (state : State) → HasBranch graph rtype start number node (Go hop to) → LeadsTo to state → LeadsTo start state
  further start number to node hop state has later =
      record {
        numbers = number ∷ later.numbers;
        at = later.at;
        node = later.node;
        here = later.here;
        state_is = later.state_is;
        states = node.state ∷ later.states;
        hops = hop ∷ later.hops;
        leads = λ rest.
            path_by graph rtype (later.numbers ++ rest) start number node (Go hop to) has
            ∙ (ap (option_map (led_on node.state hop)) (later.leads rest)
            ∙ behind_first node.state hop later.states later.hops (path_from graph rtype rest later.at));
      }

  leads_to : (numbers : List ℕ) (start : ℕ) (walk : Walk) (state : State) → path_from graph rtype numbers start ≡ Some walk → Contains walk.states state
      → LeadsTo start state
  leads_to [] start walk state e has = cc
  leads_to (number ∷ numbers) start walk state e has =
      by (path_parts graph rtype numbers start number walk e) (λ to later goes among. leads_to numbers to later state goes among)
    where
      by : GoesOn graph rtype numbers start number walk ⊎ EndsSo graph rtype numbers start number walk
          → ((to : ℕ) (later : Walk) → path_from graph rtype numbers to ≡ Some later → Contains later.states state → LeadsTo to state) → LeadsTo start state
      by (inl on) rest =
          elim (first_or_later on.node.state on.later.states state (subst (λ (w : Walk). Contains w.states state) (sym on.made) has)) [
            | inl same ↦ itself start on.node state on.has.here same
            | inr later ↦ further start number on.to on.node on.hop state on.has (rest on.to on.later on.goes later)
          ]
      by (inr end) rest =
          elim (first_or_later end.node.state [] state (subst (λ (w : Walk). Contains w.states state) (sym end.made) has)) [
            | inl same ↦ itself start end.node state end.has.here same
            | inr none ↦ absurd (none_in_nil state none)
          ]

  -- ---- in an exact graph

  module _ (setting : Setting) (query : Labels) (is : IsGraphOf setting query graph) (exact : IsExactIn setting query graph) where
    -- nodes with one state are one
    one_node : (at to : ℕ) (a b : Node) → slice_get graph.nodes at ≡ Some a → slice_get graph.nodes to ≡ Some b → a.state ≡ b.state → at ≡ to
    one_node at to a b is_a is_b same =
        elim (cases_order at to) [
          | inl equal ↦ equal
          | inr other ↦ elim other [
            | inl less ↦ absurd (apart at to a b is_a is_b less same)
            | inr more ↦ absurd (apart to at b a is_b is_a more (sym same))
          ]
        ]
      where
        item_is : (k : ℕ) (n d : Node) → slice_get graph.nodes k ≡ Some n → get_or graph.nodes k d ≡ n
        item_is k n d e = sym (unwrap_or-slice_get graph.nodes k d) ∙ ap (λ found. unwrap_or found d) e

        apart : (i j : ℕ) (a b : Node) → slice_get graph.nodes i ≡ Some a → slice_get graph.nodes j ≡ Some b → i < j → a.state ≡ b.state → ⊥
        apart i j a b is_a is_b less same =
            exact.one_node i j a less (slice_get_within graph.nodes j b is_b)
            (ap (λ (n : Node). n.state) (item_is i a a is_a) ∙ (same ∙ sym (ap (λ (n : Node). n.state) (item_is j b a is_b))))

    -- numbers that lead from the starts to a node that has a branch for the type
    pub record IsReached (at : ℕ) : Type 0 where
      pub numbers : List ℕ
      pub states : List State
      pub hops : List Hop
      pub leads : (number : ℕ) (rest : List ℕ) → path_along graph rtype (numbers ++ number ∷ rest) ≡ option_map (behind states hops) (path_from graph rtype (number ∷ rest) at)

    -- a node with a branch for the type is reached, since its state stands on a walk
    pub reached : (at number : ℕ) (node : Node) (branch : Branch) → HasBranch graph rtype at number node branch → IsReached at
    reached at number node branch has =
        let of = of_arm setting query graph rtype is at number node branch has in
        let stands = exact.reached (node.state, rtype) (pair_there graph at node of.arm rtype has.here of.in_graph.has_arm of.typed) in
        by stands.is_walk.0 stands.walk (path_is_walk setting query graph rtype is stands.is_walk.0 ∙ stands.is_walk.1) stands.stands
      where
        of_start : (first : ℕ) (numbers : List ℕ) (walk : Walk) (start : Option ℕ) → slice_get graph.starts first ≡ start
            → option_and_then (path_from graph rtype numbers) start ≡ Some walk → Contains walk.states node.state → IsReached at
        of_start first numbers walk None is_start e stands = cc
        of_start first numbers walk (Some start) is_start e stands =
            let to = leads_to numbers start walk node.state e stands in
            let same : to.at ≡ at = one_node to.at at to.node node to.here has.here to.state_is in
            record {
              numbers = first ∷ to.numbers;
              states = to.states;
              hops = to.hops;
              leads = λ number rest.
                  ap (option_and_then (path_from graph rtype (to.numbers ++ number ∷ rest))) is_start
                  ∙ (to.leads (number ∷ rest) ∙ ap (λ n. option_map (behind to.states to.hops) (path_from graph rtype (number ∷ rest) n)) same);
            }

        by : (numbers : List ℕ) (walk : Walk) → path_along graph rtype numbers ≡ Some walk → Contains walk.states node.state → IsReached at
        by [] walk e stands = cc
        by (first ∷ numbers) walk e stands = of_start first numbers walk (slice_get graph.starts first) refl e stands

    -- a walk of the query that ends by a branch
    pub record WalkBy (node : Node) (hop : Option Hop) (leaf : Leaf) : Type 0 where
      pub walk : Walk
      pub is_walk : IsWalk setting query rtype walk
      pub ends : EndsAs walk node.state hop leaf
      pub open ends use *

    -- each branch that is an end ends a walk of the query
    pub walk_by : (at number : ℕ) (node : Node) (hop : Option Hop) (leaf : Leaf) → HasBranch graph rtype at number node (End hop leaf) → WalkBy node hop leaf
    walk_by at number node hop leaf has =
        let to = reached at number node (End hop leaf) has in
        record {
          walk = behind to.states to.hops (ended node.state hop leaf);
          is_walk = (
            to.numbers ++ number ∷ [],
            sym (path_is_walk setting query graph rtype is (to.numbers ++ number ∷ []))
                ∙ (to.leads number [] ∙ ap (option_map (behind to.states to.hops)) (path_by graph rtype [] at number node (End hop leaf) has)),
          );
          ends = record { leaf_is = refl; before = to.states; states_are = refl; hops_before = to.hops; hops_are = refl };
        }

    -- the branch by which a walk of the query ends
    pub end_of_walk : (walk : Walk) → IsWalk setting query rtype walk → EndOf walk
    end_of_walk walk (numbers, e) = end_of_path numbers walk (path_is_walk setting query graph rtype is numbers ∙ e)
