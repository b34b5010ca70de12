use Rattle.std.proofs.Common.{◌≡◌, [], length, drop, ap, arith}
use Rattle.std.specs.List.{flat_map}
use Rattle.std.proofs.lemmas.List.{drop_all}
use Rattle.graph_form.specs.Graph.{node_pairs}
use Rattle.graph_form.proofs.Places.{count_next}
use Rattle.graph_form.proofs.graph.Graph.pairs.Goals as goal

pub node_pairs-count-requires : goal.node_pairs-count-requires
node_pairs-count-requires c =
    let next = count_next node_pairs c.items-node-items.result.now c.loop-node.node-index c.node-item.result c.loop-node-test.true c.node-item.is in
    let whole = ap (λ nodes. length (flat_map node_pairs nodes)) c.items-node-items.ensures in
    omega (arith, next, whole, c.loop-node.invariant, c.self.invariant.pairs)

pub overflow_add-count : goal.overflow_add-count
overflow_add-count c =
    let next = count_next node_pairs c.items-node-items.result.now c.loop-node.node-index c.node-item.result c.loop-node-test.true c.node-item.is in
    let whole = ap (λ nodes. length (flat_map node_pairs nodes)) c.items-node-items.ensures in
    omega (arith, next, whole, c.loop-node.invariant, c.self.invariant.pairs, c.node_pairs-count.ensures)

pub loop-node-preserved : goal.loop-node-preserved
loop-node-preserved c =
    let next = count_next node_pairs c.items-node-items.result.now c.loop-node.node-index c.node-item.result c.loop-node-test.true c.node-item.is in
    omega (arith, next, c.loop-node.invariant, c.node_pairs-count.ensures)

pub returns : goal.returns
returns c =
    let items = c.items-node-items.result.now in
    let none : drop c.loop-node.node-index items ≡ [] = drop_all c.loop-node.node-index items c.loop-node-test.false in
    let left = ap (λ nodes. length (flat_map node_pairs nodes)) none in
    let whole = ap (λ nodes. length (flat_map node_pairs nodes)) c.items-node-items.ensures in
    let seen = ap (λ shape. length (flat_map node_pairs shape.nodes)) c.self.view_is in
    omega (arith, left, whole, seen, c.loop-node.invariant)
