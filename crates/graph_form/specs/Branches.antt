-- The branches of a graph, each with its state and the first type that goes its way, and what a function of a branch gives
-- over the whole graph.
use Rattle.std.specs.Prelude.{List, [], map, Option, Some}
use Rattle.std.specs.List.{find, flat_map}
use Rattle.std.specs.Option.{option_map_or}
use Rattle.dns_data.specs.RrType.{types}
use Rattle.dns_data.specs.TypeSet.{has_bit}
use Rattle.dns_data.specs.declared.rr_type.RrType.{RrType}
use Rattle.net_model.specs.declared.fault.Fault.{Fault}
use Rattle.net_model.specs.declared.walk.Hop.{Hop}
use Rattle.net_model.specs.declared.walk.State.{State}
use Rattle.graph_form.specs.Graph.{PlainGraph}
use Rattle.graph_form.specs.declared.branches.TypedBranch.{TypedBranch}
use Rattle.graph_form.specs.declared.node.Arm.{Arm}
use Rattle.graph_form.specs.declared.node.Branch.{Branch}
use Rattle.graph_form.specs.declared.node.Branch.TheVariants.{Go, End}
use Rattle.graph_form.specs.declared.node.Node.{Node}
use Rattle.graph_form.specs.declared.report.Seen.{Seen}

-- the hop by which the branch goes on or ends
abbrev pub hop_of : Branch → Option Hop
hop_of (Go hop to) = Some hop
hop_of (End hop leaf) = hop

-- a branch of a state, with a type that goes its way
pub record PlainBranch : Type 0 where
  pub state : State
  pub rtype : RrType
  pub branch : Branch

-- the branch of a state with this type
abbrev pub plain : State → RrType → Branch → PlainBranch
plain state rtype branch = record { state = state; rtype = rtype; branch = branch }

-- the branch of a state with a type, behind the references of a typed branch
abbrev pub plain_branch : TypedBranch → PlainBranch
plain_branch one = plain one.state.now one.rtype one.branch.now

-- the branches of an arm, with its first type
abbrev pub arm_branches : State → Arm → List PlainBranch
arm_branches state arm = option_map_or (λ rtype. map (plain state rtype) arm.branches) (find (has_bit arm.types) types) []

-- the branches of a node
abbrev pub node_branches : Node → List PlainBranch
node_branches node = flat_map (arm_branches node.state) node.arms

-- the branches of a graph
abbrev pub typed_branches : PlainGraph → List PlainBranch
typed_branches graph = flat_map node_branches graph.nodes

-- faults with a type
abbrev pub with_type : RrType → List Fault → List Seen
with_type rtype all = map (λ fault. record { fault = fault; rtype = rtype }) all

-- the faults of a branch, with its type
abbrev pub branch_seen : (State → Branch → List Fault) → PlainBranch → List Seen
branch_seen faults one = with_type one.rtype (faults one.state one.branch)

-- the faults of all branches of a graph, where this function gives those of a branch
abbrev pub seen_by : (State → Branch → List Fault) → PlainGraph → List Seen
seen_by faults graph = flat_map (branch_seen faults) (typed_branches graph)
