-- A graph of the walks of a query. All is said node by node: its branches tell the steps of its state, and lead to nodes
-- that go on with the same types.
use Rattle.std.specs.Prelude.{◌≡◌, ◌≢◌, ℕ, true, false, Some, Contains, AllPairs, slice_get, is_some}
use Rattle.std.specs.List.{AllZip}
use Rattle.dns_data.specs.Name.{Labels}
use Rattle.dns_data.specs.TypeSet.{has_bit}
use Rattle.dns_data.specs.declared.rr_type.RrType.{RrType}
use Rattle.net_model.specs.Step.{Setting, start, next}
use Rattle.net_model.specs.Step as step
use Rattle.net_model.specs.Tree.{IsReached}
use Rattle.net_model.specs.Walk.{IsWalk}
use Rattle.net_model.specs.declared.config.Config.{Config}
use Rattle.net_model.specs.declared.walk.Hop.{Hop}
use Rattle.net_model.specs.declared.walk.State.{State}
use Rattle.net_model.specs.declared.walk.Walk.{Walk}
use Rattle.graph_form.specs.Graph.{PlainGraph, arm_of, pairs_of}
use Rattle.graph_form.specs.declared.node.Arm.{Arm}
use Rattle.graph_form.specs.declared.node.Branch.{Branch}
use Rattle.graph_form.specs.declared.node.Branch.TheVariants.{Go, End}
use Rattle.graph_form.specs.declared.node.Node.{Node}

-- the node with this number has the state
abbrev pub HasState : PlainGraph → ℕ → State → Type 0
HasState graph at state = (node : Node) × (slice_get graph.nodes at ≡ Some node) × (node.state ≡ state)

-- the node with this number has an arm for the type
abbrev pub HasType : PlainGraph → RrType → ℕ → Type 0
HasType graph rtype at = (node : Node) × (slice_get graph.nodes at ≡ Some node) × (is_some (arm_of node rtype) ≡ true)

-- a branch of an arm tells a branch of a state: it leads to a node of the same state, or is the same end
abbrev pub TellsStep : PlainGraph → Branch → step.Branch → Type 0
TellsStep graph (Go hop to) branch = (state : State) × (branch ≡ step.Go hop state) × HasState graph to state
TellsStep graph (End hop leaf) branch = branch ≡ step.End hop leaf

-- an arm of a node in the graph
pub record IsArm (graph : PlainGraph) (at : ℕ) (node : Node) (arm : Arm) : Type 0 where
  pub is_node : slice_get graph.nodes at ≡ Some node
  pub has_arm : Contains node.arms arm

-- the graph's paths are the walks of the query
pub record IsGraphOf (setting : Setting) (query : Labels) (graph : PlainGraph) : Type 0 where
  -- the branches of an arm tell the steps of the node's state for each type of the arm, in order
  pub steps : (at : ℕ) (node : Node) (arm : Arm) (rtype : RrType) → IsArm graph at node arm → has_bit arm.types rtype ≡ true
      → AllZip (TellsStep graph) arm.branches (next setting rtype node.state)
  -- a branch leads to a node that has every type of its arm
  pub closed : (at : ℕ) (node : Node) (arm : Arm) (rtype : RrType) → IsArm graph at node arm → has_bit arm.types rtype ≡ true
      → (hop : Hop) (to : ℕ) → Contains arm.branches (Go hop to) → HasType graph rtype to
  -- the starts have the states in which the query begins, in order, and every type
  pub starts : AllZip (HasState graph) graph.starts (start setting.config query)
  pub all_types : (at : ℕ) → Contains graph.starts at → (rtype : RrType) → HasType graph rtype at
  -- the arms of a node are apart in their types
  pub apart : (at : ℕ) (node : Node) → slice_get graph.nodes at ≡ Some node
      → AllPairs (λ a b. (rtype : RrType) → has_bit a.types rtype ≡ true → has_bit b.types rtype ≡ false) node.arms

-- the state stands on a walk of the query with the type
pub record StandsOn (setting : Setting) (query : Labels) (pair : State × RrType) : Type 0 where
  pub walk : Walk
  pub is_walk : IsWalk setting query pair.1 walk
  pub stands : Contains walk.states pair.0

-- no two nodes of the graph have equal states, and each pair of a node stands on a walk
pub record IsExactIn (setting : Setting) (query : Labels) (graph : PlainGraph) : Type 0 where
  pub one_node : AllPairs (λ a b. a.state ≢ b.state) graph.nodes
  pub reached : (pair : State × RrType) → Contains (pairs_of graph) pair → StandsOn setting query pair

-- the graph has the pairs of state and type that the query reaches: no two nodes have equal states, and each pair of a node
-- is reached
pub record IsExact (config : Config) (rewrites : ℕ) (query : Labels) (graph : PlainGraph) : Type 0 where
  pub one_node : AllPairs (λ a b. a.state ≢ b.state) graph.nodes
  pub reached : (pair : State × RrType) → Contains (pairs_of graph) pair → IsReached config rewrites query pair
