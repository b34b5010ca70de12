use Rattle.std.proofs.Common.{◌+◌, List, sym, subst, take}
use Rattle.std.specs.List.{AllZip}
use Rattle.graph_form.specs.declared.node.Arm.{Arm}
use Rattle.interp_graph.specs.Restricted.{IsLimitedArm, shut_of}
use Rattle.interp_graph.proofs.Limiting.{zip_more}
use Rattle.interp_graph.proofs.limited.limited_arms.Goals as goal

pub loop-arm-preserved : goal.loop-arm-preserved
loop-arm-preserved c =
    subst (λ (now : List Arm). AllZip (IsLimitedArm (shut_of c.args.limits.now) c.args.types) now (take (c.loop-arm.arm-index + 1) c.args.arms.now)) (sym c.in_ok-push.ensures.ok)
    (zip_more (IsLimitedArm (shut_of c.args.limits.now) c.args.types) c.loop-arm.now c.args.arms.now c.loop-arm.arm-index c.in_ok-limited_arm.field-0 c.arm-item.result
    c.loop-arm-test.true c.arm-item.is c.loop-arm.invariant c.in_ok-limited_arm.ensures)
