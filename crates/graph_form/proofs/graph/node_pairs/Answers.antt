use Rattle.std.proofs.Common.{◌≡◌, [], length, drop, ap, arith}
use Rattle.std.specs.List.{flat_map}
use Rattle.std.proofs.lemmas.List.{drop_all}
use Rattle.graph_form.specs.Graph.{arm_pairs}
use Rattle.graph_form.proofs.Pairs.{arm_count}
use Rattle.graph_form.proofs.Places.{count_next}
use Rattle.graph_form.proofs.graph.node_pairs.Goals as goal

pub overflow_add-count : goal.overflow_add-count
overflow_add-count c =
    let state = c.args.node.now.state in
    let next = count_next (arm_pairs state) c.items-arm-items.result.now c.loop-arm.arm-index c.arm-item.result c.loop-arm-test.true c.arm-item.is in
    let types = arm_count state c.arm-item.result in
    let whole = ap (λ arms. length (flat_map (arm_pairs state) arms)) c.items-arm-items.ensures in
    omega (arith, next, types, whole, c.loop-arm.invariant, c.requires, c.type_count-count.ensures)

pub loop-arm-preserved : goal.loop-arm-preserved
loop-arm-preserved c =
    let state = c.args.node.now.state in
    let next = count_next (arm_pairs state) c.items-arm-items.result.now c.loop-arm.arm-index c.arm-item.result c.loop-arm-test.true c.arm-item.is in
    let types = arm_count state c.arm-item.result in
    omega (arith, next, types, c.loop-arm.invariant, c.type_count-count.ensures)

pub returns : goal.returns
returns c =
    let items = c.items-arm-items.result.now in
    let none : drop c.loop-arm.arm-index items ≡ [] = drop_all c.loop-arm.arm-index items c.loop-arm-test.false in
    let left = ap (λ arms. length (flat_map (arm_pairs c.args.node.now.state) arms)) none in
    let whole = ap (λ arms. length (flat_map (arm_pairs c.args.node.now.state) arms)) c.items-arm-items.ensures in
    omega (arith, left, whole, c.loop-arm.invariant)
