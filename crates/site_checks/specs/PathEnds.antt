-- The ends of the paths of a graph, and the search for them. The contracts of inner calls alone cite it.
use Rattle.std.specs.Prelude.{◌≡◌, ℕ, zero, suc, Bool, true, ◌&&◌, ◌||◌, nat_lt, List, [], ◌∷◌, length, Option, Some, None, slice_get, if◌then◌else◌, ◌==◌, Contains}
use Rattle.std.specs.List.{flat_map, fold}
use Rattle.std.specs.Option.{option_map_or}
use Rattle.dns_data.specs.Name.{Labels}
use Rattle.dns_data.specs.RrType.{types}
use Rattle.dns_data.specs.declared.rr_type.RrType.{RrType}
use Rattle.graph_form.specs.Graph.{PlainGraph, branches_of}
use Rattle.graph_form.specs.GraphOf.{IsGraphOf}
use Rattle.graph_form.specs.declared.node.Branch.{Branch}
use Rattle.graph_form.specs.declared.node.Branch.TheVariants.{Go, End}
use Rattle.graph_form.specs.declared.node.Node.{Node}
use Rattle.net_model.specs.Step.{Setting}
use Rattle.net_model.specs.declared.walk.State.{State}
use Rattle.net_model.proofs.StepBounds.{IsNear}
use Rattle.site_checks.specs.Ends.{end_eq, typed_end}
use Rattle.site_checks.specs.Once.{with_new}
use Rattle.site_checks.specs.declared.views.TypedEnd.{TypedEnd}

-- ---- the ends of paths

-- the ends of a branch, where the nodes that it may go to have these
abbrev pub ends_by : (ℕ → List TypedEnd) → RrType → State → Branch → List TypedEnd
ends_by on rtype state (Go hop to) = on to
ends_by on rtype state (End hop leaf) = typed_end rtype state.server leaf ∷ []

-- the ends of a node
abbrev pub node_ends : (ℕ → List TypedEnd) → RrType → Option Node → List TypedEnd
node_ends on rtype None = []
node_ends on rtype (Some node) = flat_map (ends_by on rtype node.state) (branches_of node rtype)

-- the ends of the paths with a type, of no more nodes than so many, from the node with a number, in order
abbrev pub ends_within : ℕ → PlainGraph → RrType → ℕ → List TypedEnd
ends_within zero graph rtype at = []
ends_within (suc depth) graph rtype at = node_ends (ends_within depth graph rtype) rtype (slice_get graph.nodes at)

-- the ends of all paths from a node: none has more nodes than the graph
abbrev pub ends_from : PlainGraph → RrType → ℕ → List TypedEnd
ends_from graph rtype at = ends_within (length graph.nodes) graph rtype at

-- the ends of all paths of a graph with a type
abbrev pub ends_with : PlainGraph → RrType → List TypedEnd
ends_with graph rtype = flat_map (ends_from graph rtype) graph.starts

-- each of these ends once, where it comes first
abbrev pub once_with : PlainGraph → RrType → List TypedEnd
once_with graph rtype = fold (with_new end_eq) [] (ends_with graph rtype)

-- the ends of all paths of a graph, type by type
abbrev pub path_ends : PlainGraph → List TypedEnd
path_ends graph = flat_map (ends_with graph) types

-- ---- the search

-- the state comes before the other: it used fewer rewrites, or as many and has a shorter zone cut
abbrev pub comes_before : State → State → Bool
comes_before a b = nat_lt a.used b.used || ((a.used == b.used) && nat_lt a.cut b.cut)

-- how many nodes have a state that comes after this one
abbrev pub nodes_after : List Node → State → ℕ
nodes_after [] state = 0
nodes_after (node ∷ nodes) state =
    if comes_before state node.state then suc (nodes_after nodes state) else nodes_after nodes state

-- how many have one that comes after that of the node with a number
abbrev pub left_after : PlainGraph → ℕ → ℕ
left_after graph at = option_map_or (λ node. nodes_after graph.nodes node.state) (slice_get graph.nodes at) 0

-- walks of some query come to the node with this number
pub record IsMet (graph : PlainGraph) (at : ℕ) : Type 0 where
  pub setting : Setting
  pub query : Labels
  pub of_query : IsGraphOf setting query graph
  pub node : Node
  pub here : slice_get graph.nodes at ≡ Some node
  pub near : IsNear setting node.state

-- the ends to which a marked node leads are found
abbrev pub AreDone : PlainGraph → RrType → List Bool → List TypedEnd → Type 0
AreDone graph rtype done ends =
    (at : ℕ) (end : TypedEnd) → slice_get done at ≡ Some true → Contains (ends_from graph rtype at) end → Contains ends end
