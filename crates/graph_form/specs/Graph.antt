-- Graphs: nodes and the nodes in which walks begin. A path takes one branch of each node, as a walk does of each state.
use Rattle.std.specs.Prelude.{◌≡◌, ℕ, ◌<◌, ◌^◌, Bool, List, [], ◌∷◌, length, map, slice_get, Option, Some, None, option_map, option_and_then, if◌then◌else◌, ◌==◌}
use Rattle.std.specs.List.{filter, find, flat_map}
use Rattle.std.specs.Option.{option_map_or, option_to_list}
use Rattle.dns_data.specs.RrType.{types}
use Rattle.dns_data.specs.TypeSet.{has_bit}
use Rattle.dns_data.specs.declared.rr_type.RrType.{RrType}
use Rattle.net_model.specs.Walk.{led_on}
use Rattle.net_model.specs.declared.walk.State.{State}
use Rattle.net_model.specs.declared.walk.Walk.{Walk}
use Rattle.graph_form.specs.declared.node.Arm.{Arm}
use Rattle.graph_form.specs.declared.node.Branch.{Branch}
use Rattle.graph_form.specs.declared.node.Branch.TheVariants.{Go, End}
use Rattle.graph_form.specs.declared.node.Node.{Node}

-- what a graph is seen as
pub record PlainGraph : Type 0 where
  pub nodes : List Node
  pub starts : List ℕ

-- the types of an arm
abbrev pub types_of : Arm → List RrType
types_of arm = filter (has_bit arm.types) types

-- the pairs of a state with each of the types of an arm
abbrev pub arm_pairs : State → Arm → List (State × RrType)
arm_pairs state arm = map (λ rtype. (state, rtype)) (types_of arm)

-- the pairs of a node: those of its arms
abbrev pub node_pairs : Node → List (State × RrType)
node_pairs node = flat_map (arm_pairs node.state) node.arms

-- the pairs of state and type
abbrev pub pairs_of : PlainGraph → List (State × RrType)
pairs_of graph = flat_map node_pairs graph.nodes

-- there are less than 2^32 nodes and pairs
pub record IsCounted (graph : PlainGraph) : Type 0 where
  pub nodes : length graph.nodes < 2 ^ 32
  pub pairs : length (pairs_of graph) < 2 ^ 32

-- the arm of a node for a type
abbrev pub arm_of : Node → RrType → Option Arm
arm_of node rtype = find (λ arm. has_bit arm.types rtype) node.arms

-- the branches of a node for a type, in order
abbrev pub branches_of : Node → RrType → List Branch
branches_of node rtype = option_map_or (λ arm. arm.branches) (arm_of node rtype) []

-- the branch with a number of the node with a number, for a type
pub record HasBranch (graph : PlainGraph) (rtype : RrType) (at number : ℕ) (node : Node) (branch : Branch) : Type 0 where
  pub here : slice_get graph.nodes at ≡ Some node
  pub there : slice_get (branches_of node rtype) number ≡ Some branch

-- the walk that a branch of a node gives: it ends, if no number of a branch is left; or it goes on
abbrev pub by_branch : (ℕ → Option Walk) → State → Bool → Option Branch → Option Walk
by_branch on state is_last None = None
by_branch on state is_last (Some (Go hop to)) = option_map (led_on state hop) (on to)
by_branch on state is_last (Some (End hop leaf)) =
    if is_last then Some (record { states = state ∷ []; hops = option_to_list hop; leaf = leaf }) else None

-- the walk that a node gives by its branch with this number
abbrev pub node_walk : (ℕ → Option Walk) → RrType → ℕ → Bool → Option Node → Option Walk
node_walk on rtype number is_last None = None
node_walk on rtype number is_last (Some node) = by_branch on node.state is_last (slice_get (branches_of node rtype) number)

-- the walk from the node with a number that takes the branches with these numbers, counted from 0
abbrev pub path_from : PlainGraph → RrType → List ℕ → ℕ → Option Walk
path_from graph rtype [] at = None
path_from graph rtype (number ∷ numbers) at =
    node_walk (path_from graph rtype numbers) rtype number (length numbers == 0) (slice_get graph.nodes at)

-- the walk with these numbers: first that of its start, then those of the branches
abbrev pub path_along : PlainGraph → RrType → List ℕ → Option Walk
path_along graph rtype [] = None
path_along graph rtype (number ∷ numbers) = option_and_then (path_from graph rtype numbers) (slice_get graph.starts number)
