use Rattle.std.proofs.Common.{[], ap, map, ◌∙◌}
use Rattle.std.specs.List.{flat_map}
use Rattle.std.proofs.lemmas.List.{take_all}
use Rattle.graph_form.specs.Branches.{node_branches, plain_branch}
use Rattle.graph_form.proofs.Verdicts.{put_more, put_all}
use Rattle.graph_form.proofs.branches.typed_branches.Goals as goal

pub loop-node-preserved : goal.loop-node-preserved
loop-node-preserved c =
    put_more node_branches c.items-node-items.result.now c.loop-node.node-index [] (map plain_branch c.loop-node.all.items) c.loop-node.invariant
    c.node-item.result (map plain_branch c.put_node.new.all.items) c.loop-node-test.true c.node-item.is c.in_ok-put_node.ensures

pub returns : goal.returns
returns c =
    put_all node_branches c.items-node-items.result.now c.loop-node.node-index [] (map plain_branch c.loop-node.all.items) c.loop-node.invariant
    (take_all c.loop-node.node-index c.items-node-items.result.now c.loop-node-test.false)
    ∙ ap (flat_map node_branches) c.items-node-items.ensures
