use Rattle.std.proofs.Common.{List, map, ap, ◌∙◌, ◌++◌}
use Rattle.std.specs.List.{flat_map}
use Rattle.std.proofs.lemmas.List.{take_all}
use Rattle.graph_form.specs.Branches.{arm_branches, plain_branch}
use Rattle.graph_form.specs.declared.node.Arm.{Arm}
use Rattle.graph_form.proofs.Verdicts.{put_more, put_all}
use Rattle.graph_form.proofs.branches.put_node.Goals as goal

pub loop-arm-preserved : goal.loop-arm-preserved
loop-arm-preserved c =
    put_more (arm_branches c.args.node.now.state) c.items-arm-items.result.now c.loop-arm.arm-index (map plain_branch c.args.all.now.items)
    (map plain_branch c.loop-arm.all.items) c.loop-arm.invariant c.arm-item.result (map plain_branch c.put_arm.new.all.items) c.loop-arm-test.true c.arm-item.is
    c.in_ok-put_arm.ensures

pub returns : goal.returns
returns c =
    put_all (arm_branches c.args.node.now.state) c.items-arm-items.result.now c.loop-arm.arm-index (map plain_branch c.args.all.now.items)
    (map plain_branch c.loop-arm.all.items) c.loop-arm.invariant (take_all c.loop-arm.arm-index c.items-arm-items.result.now c.loop-arm-test.false)
    ∙ ap (λ (arms : List Arm). map plain_branch c.args.all.now.items ++ flat_map (arm_branches c.args.node.now.state) arms) c.items-arm-items.ensures
