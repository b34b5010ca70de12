use Rattle.std.proofs.Common.{List, take}
use Rattle.std.specs.List.{AllZip}
use Rattle.graph_form.specs.Graph.{branches_of}
use Rattle.graph_form.specs.declared.node.Node.{Node}
use Rattle.address_deps.specs.Giving.{IsTurnOf}
use Rattle.address_deps.specs.declared.addresses.Turn.{Turn}
use Rattle.address_deps.proofs.paths.turns_of.Given as goal

-- those of the nodes so far
abbrev pub invariant-loop-at : goal.invariant-loop-at
invariant-loop-at l =
    AllZip (λ (node : Node) (turns : List Turn). AllZip (IsTurnOf l.hosts) (branches_of node l.fn.rtype) turns) (take l.at l.graph.nodes) l.nodes
