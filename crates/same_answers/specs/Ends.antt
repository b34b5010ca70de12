-- The ends of the graph of a query's walks, and how those of two graphs are compared: for the contracts of inner calls
-- alone.
use Rattle.std.specs.Prelude.{Bool, ◌&&◌, not, List, [], ◌∷◌, if◌then◌else◌}
use Rattle.std.specs.List.{find, flat_map, list_all, list_any}
use Rattle.std.specs.Option.{option_map_or}
use Rattle.dns_data.specs.RrType.{types}
use Rattle.dns_data.specs.declared.rr_type.RrType.{RrType}
use Rattle.graph_form.specs.EndFaults.{is_overlong_end}
use Rattle.graph_form.specs.FirstPath.{answer_eq}
use Rattle.graph_form.specs.Graph.{PlainGraph, branches_of}
use Rattle.graph_form.specs.declared.node.Branch.{Branch}
use Rattle.graph_form.specs.declared.node.Branch.TheVariants.{Go, End}
use Rattle.graph_form.specs.declared.node.Node.{Node}
use Rattle.net_model.specs.Shown.{is_authoritative}
use Rattle.net_model.specs.declared.walk.Leaf.{Leaf}
use Rattle.same_answers.specs.declared.verdict.PairEnd.{PairEnd}
use Rattle.same_answers.specs.declared.verdict.PairEnd.TheVariants.{Equal, Apart, Unbounded}

-- the leaf in which a branch ends, if it ends
abbrev pub branch_leaves : Branch → List Leaf
branch_leaves (Go hop to) = []
branch_leaves (End hop leaf) = leaf ∷ []

-- the leaves in which the branches of a node end, with a type
abbrev pub node_leaves : RrType → Node → List Leaf
node_leaves rtype node = flat_map branch_leaves (branches_of node rtype)

-- the leaves in which the branches of all nodes of a graph end, with a type
abbrev pub leaves_of : PlainGraph → RrType → List Leaf
leaves_of graph rtype = flat_map (node_leaves rtype) graph.nodes

-- a branch of the node with the type ends in a name of more than 255 octets
abbrev pub node_overlong : RrType → Node → Bool
node_overlong rtype node = list_any is_overlong_end (branches_of node rtype)

-- a branch of some node with the type ends in a name of more than 255 octets
abbrev pub graph_overlong : PlainGraph → RrType → Bool
graph_overlong graph rtype = list_any (node_overlong rtype) graph.nodes

-- with no type does the graph end in a name of more than 255 octets
abbrev pub is_bounded : PlainGraph → Bool
is_bounded graph = list_all (λ rtype. not (graph_overlong graph rtype)) types

-- two ends have one outcome: they tell the same, or neither tells anything
abbrev pub outcome_eq : Leaf → Leaf → Bool
outcome_eq a b = if is_authoritative a then answer_eq a b else not (is_authoritative b)

-- each of the ends has the outcome of one of the others
abbrev pub are_within : List Leaf → List Leaf → Bool
are_within some others = list_all (λ leaf. list_any (outcome_eq leaf) others) some

-- the ends have the same outcomes
abbrev pub are_alike : List Leaf → List Leaf → Bool
are_alike some others = are_within some others && are_within others some

-- the two graphs have the same outcomes with the type
abbrev pub graphs_alike : PlainGraph → PlainGraph → RrType → Bool
graphs_alike first second rtype = are_alike (leaves_of first rtype) (leaves_of second rtype)

-- what the graphs of a query's walks tell of it
abbrev pub graphs_end : PlainGraph → PlainGraph → PairEnd
graphs_end first second =
    if is_bounded first && is_bounded second
    then option_map_or Apart (find (λ rtype. not (graphs_alike first second rtype)) types) Equal
    else Unbounded
