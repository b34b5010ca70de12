-- Numbers take a branch that shows a fault exactly where they are those of a walk that shows it.
use Rattle.std.proofs.Common.{◌≡◌, ℕ, Bool, true, false, ◌||◌, ◌&&◌, List, [], ◌∷◌, ◌++◌, length, refl, ap, ◌∙◌, ◌==◌, inl, inr, Some, None, arith}
use Rattle.std.specs.Prelude.{◌⊎◌, slice_get, Option, option_map, option_and_then, if◌then◌else◌}
use Rattle.std.specs.Option.{option_map_or, option_to_list}
use Rattle.std.proofs.Math.Bool.{or_assoc}
use Rattle.std.proofs.lemmas.Bool.Decides.{nat_tests}
use Rattle.dns_data.specs.declared.rr_type.RrType.{RrType}
use Rattle.net_model.specs.Walk.{led_on}
use Rattle.net_model.specs.declared.walk.Hop.{Hop}
use Rattle.net_model.specs.declared.walk.Leaf.{Leaf}
use Rattle.net_model.specs.declared.walk.State.{State}
use Rattle.net_model.specs.declared.walk.Walk.{Walk}
use Rattle.graph_form.specs.FirstPath.{takes_by, node_takes, takes_from, takes_along}
use Rattle.graph_form.specs.Graph.{HasBranch, PlainGraph, branches_of, by_branch, node_walk, path_from, path_along}
use Rattle.graph_form.specs.declared.node.Branch.{Branch}
use Rattle.graph_form.specs.declared.node.Branch.TheVariants.{Go, End}
use Rattle.graph_form.specs.declared.node.Node.{Node}

-- the walk of a state that ends
abbrev pub ended : State → Option Hop → Leaf → Walk
ended state hop leaf = record { states = state ∷ []; hops = option_to_list hop; leaf = leaf }

-- the walk ends in the state, with the hop and the leaf
pub record EndsAs (walk : Walk) (state : State) (hop : Option Hop) (leaf : Leaf) : Type 0 where
  pub leaf_is : walk.leaf ≡ leaf
  pub before : List State
  pub states_are : walk.states ≡ before ++ state ∷ []
  pub hops_before : List Hop
  pub hops_are : walk.hops ≡ hops_before ++ option_to_list hop

-- as the walk of a state that ends does
pub ends_at_once : (state : State) (hop : Option Hop) (leaf : Leaf) → EndsAs (ended state hop leaf) state hop leaf
ends_at_once state hop leaf = record { leaf_is = refl; before = []; states_are = refl; hops_before = []; hops_are = refl }

-- and a walk with a state and a hop in front
pub ends_later : (first : State) (through : Hop) (walk : Walk) (state : State) (hop : Option Hop) (leaf : Leaf) → EndsAs walk state hop leaf
    → EndsAs (led_on first through walk) state hop leaf
ends_later first through walk state hop leaf ends =
    record {
      leaf_is = ends.leaf_is;
      before = first ∷ ends.before;
      states_are = ap (λ (all : List State). first ∷ all) ends.states_are;
      hops_before = through ∷ ends.hops_before;
      hops_are = ap (λ (all : List Hop). through ∷ all) ends.hops_are;
    }

-- a list with a number in front isn't empty
pub not_last : (number : ℕ) (numbers : List ℕ) → (length (number ∷ numbers) == 0) ≡ false
not_last number numbers = grind (arith, nat_tests)

module _ (graph : PlainGraph) (rtype : RrType) where
  -- ---- the walk of a path, by its first branch

  -- the path with a number in front goes by the node's branch with this number
  pub path_by : (numbers : List ℕ) (at number : ℕ) (node : Node) (branch : Branch) → HasBranch graph rtype at number node branch
      → path_from graph rtype (number ∷ numbers) at ≡ by_branch (path_from graph rtype numbers) node.state (length numbers == 0) (Some branch)
  path_by numbers at number node branch has =
      ap (node_walk (path_from graph rtype numbers) rtype number (length numbers == 0)) has.here
      ∙ ap (by_branch (path_from graph rtype numbers) node.state (length numbers == 0)) has.there

  -- the walk goes on by the branch
  pub record GoesOn (numbers : List ℕ) (at number : ℕ) (walk : Walk) : Type 0 where
    pub node : Node
    pub hop : Hop
    pub to : ℕ
    pub later : Walk
    pub has : HasBranch graph rtype at number node (Go hop to)
    pub goes : path_from graph rtype numbers to ≡ Some later
    pub made : led_on node.state hop later ≡ walk

  -- the walk ends by the branch
  pub record EndsSo (numbers : List ℕ) (at number : ℕ) (walk : Walk) : Type 0 where
    pub node : Node
    pub hop : Option Hop
    pub leaf : Leaf
    pub has : HasBranch graph rtype at number node (End hop leaf)
    pub none_left : numbers ≡ []
    pub made : ended node.state hop leaf ≡ walk

  goes : (numbers : List ℕ) (at number : ℕ) (walk : Walk) (node : Node) (hop : Hop) (to : ℕ) → HasBranch graph rtype at number node (Go hop to)
      → (rest : Option Walk) → path_from graph rtype numbers to ≡ rest → option_map (led_on node.state hop) rest ≡ Some walk → GoesOn numbers at number walk
  goes numbers at number walk node hop to has None is e = cc
  goes numbers at number walk node hop to has (Some later) is e =
      record { node = node; hop = hop; to = to; later = later; has = has; goes = is; made = cc }

  ends : (numbers : List ℕ) (at number : ℕ) (walk : Walk) (node : Node) (hop : Option Hop) (leaf : Leaf) → HasBranch graph rtype at number node (End hop leaf)
      → (if length numbers == 0 then Some (ended node.state hop leaf) else None) ≡ Some walk → EndsSo numbers at number walk
  ends [] at number walk node hop leaf has e = record { node = node; hop = hop; leaf = leaf; has = has; none_left = refl; made = cc }
  ends (other ∷ numbers) at number walk node hop leaf has e =
      let none : (if length (other ∷ numbers) == 0 then Some (ended node.state hop leaf) else None) ≡ None =
      ap (λ (b : Bool). if b then Some (ended node.state hop leaf) else None) (not_last other numbers) in
      cc

  -- a walk of a path with a number in front goes on by the branch with this number, or ends by it
  pub path_parts : (numbers : List ℕ) (at number : ℕ) (walk : Walk) → path_from graph rtype (number ∷ numbers) at ≡ Some walk
      → GoesOn numbers at number walk ⊎ EndsSo numbers at number walk
  path_parts numbers at number walk e = by (slice_get graph.nodes at) refl e where
    by_kind : (node : Node) (branch : Branch) → HasBranch graph rtype at number node branch
        → by_branch (path_from graph rtype numbers) node.state (length numbers == 0) (Some branch) ≡ Some walk
        → GoesOn numbers at number walk ⊎ EndsSo numbers at number walk
    by_kind node (Go hop to) has e = inl (goes numbers at number walk node hop to has (path_from graph rtype numbers to) refl e)
    by_kind node (End hop leaf) has e = inr (ends numbers at number walk node hop leaf has e)

    by_there : (node : Node) → slice_get graph.nodes at ≡ Some node → (branch : Option Branch) → slice_get (branches_of node rtype) number ≡ branch
        → by_branch (path_from graph rtype numbers) node.state (length numbers == 0) branch ≡ Some walk
        → GoesOn numbers at number walk ⊎ EndsSo numbers at number walk
    by_there node here None there e = cc
    by_there node here (Some branch) there e = by_kind node branch (record { here = here; there = there }) e

    by : (node : Option Node) → slice_get graph.nodes at ≡ node
        → node_walk (path_from graph rtype numbers) rtype number (length numbers == 0) node ≡ Some walk
        → GoesOn numbers at number walk ⊎ EndsSo numbers at number walk
    by None here e = cc
    by (Some node) here e = by_there node here (slice_get (branches_of node rtype) number) refl e

  -- a walk of some path of the graph
  pub record IsRest (walk : Walk) : Type 0 where
    pub at : ℕ
    pub numbers : List ℕ
    pub is : path_from graph rtype numbers at ≡ Some walk

  -- ---- which paths take a branch that shows

  -- what a walk of the graph shows a branch of it does, told branch by branch
  pub record Tells (walk_shows : Walk → Bool) (shows : State → Branch → Bool) : Type 0 where
    pub at_end : (at number : ℕ) (node : Node) (hop : Option Hop) (leaf : Leaf) → HasBranch graph rtype at number node (End hop leaf)
        → shows node.state (End hop leaf) ≡ walk_shows (ended node.state hop leaf)
    pub on_hop : (state : State) (hop : Hop) (to : ℕ) (later : Walk) → IsRest later
        → (shows state (Go hop to) || walk_shows later) ≡ walk_shows (led_on state hop later)

  module _ (walk_shows : Walk → Bool) (shows : State → Branch → Bool) (tells : Tells walk_shows shows) where
    -- something was shown before, or the walk shows it; where there is no walk, nothing is
    abbrev Shown : Bool → Option Walk → Bool
    Shown taken walk = option_map_or (λ one. taken || walk_shows one) walk false

    -- numbers take a branch that shows exactly if they are those of a walk from the node that shows
    takes_is : (numbers : List ℕ) (at : ℕ) (taken : Bool) → takes_from shows graph rtype numbers taken at ≡ Shown taken (path_from graph rtype numbers at)
    takes_is [] at taken = refl
    takes_is (number ∷ numbers) at taken = by (slice_get graph.nodes at) refl (λ to now. takes_is numbers to now) where
      on : (state : State) (hop : Hop) (to : ℕ) (later : Option Walk) → path_from graph rtype numbers to ≡ later
          → Shown (taken || shows state (Go hop to)) later ≡ Shown taken (option_map (led_on state hop) later)
      on state hop to None is = refl
      on state hop to (Some later) is =
          or_assoc taken (shows state (Go hop to)) (walk_shows later)
          ∙ ap (λ b. taken || b) (tells.on_hop state hop to later (record { at = to; numbers = numbers; is = is }))

      last : (node : Node) (hop : Option Hop) (leaf : Leaf) → HasBranch graph rtype at number node (End hop leaf) → (is_last : Bool)
          → (is_last && (taken || shows node.state (End hop leaf))) ≡ Shown taken (if is_last then Some (ended node.state hop leaf) else None)
      last node hop leaf has true = ap (λ b. taken || b) (tells.at_end at number node hop leaf has)
      last node hop leaf has false = refl

      by_kind : (node : Node) → slice_get graph.nodes at ≡ Some node → (branch : Option Branch) → slice_get (branches_of node rtype) number ≡ branch
          → ((to : ℕ) (now : Bool) → takes_from shows graph rtype numbers now to ≡ Shown now (path_from graph rtype numbers to))
          → takes_by (takes_from shows graph rtype numbers) shows node.state (length numbers == 0) taken branch
          ≡ Shown taken (by_branch (path_from graph rtype numbers) node.state (length numbers == 0) branch)
      by_kind node here None there rest = refl
      by_kind node here (Some (Go hop to)) there rest =
          rest to (taken || shows node.state (Go hop to)) ∙ on node.state hop to (path_from graph rtype numbers to) refl
      by_kind node here (Some (End hop leaf)) there rest = last node hop leaf (record { here = here; there = there }) (length numbers == 0)

      by : (node : Option Node) → slice_get graph.nodes at ≡ node
          → ((to : ℕ) (now : Bool) → takes_from shows graph rtype numbers now to ≡ Shown now (path_from graph rtype numbers to))
          → node_takes (takes_from shows graph rtype numbers) shows rtype number (length numbers == 0) taken node
          ≡ Shown taken (node_walk (path_from graph rtype numbers) rtype number (length numbers == 0) node)
      by None here rest = refl
      by (Some node) here rest = by_kind node here (slice_get (branches_of node rtype) number) refl rest

    -- and from a start
    pub takes_along_is : (numbers : List ℕ) → takes_along shows graph rtype numbers ≡ option_map_or walk_shows (path_along graph rtype numbers) false
    takes_along_is [] = refl
    takes_along_is (number ∷ numbers) = by (slice_get graph.starts number) where
      by : (start : Option ℕ) → option_map_or (takes_from shows graph rtype numbers false) start false
          ≡ option_map_or walk_shows (option_and_then (path_from graph rtype numbers) start) false
      by None = refl
      by (Some at) = takes_is numbers at false
