use Rattle.std.proofs.Common.{◌≡◌}
use Rattle.dns_data.specs.TypeSet.{has_bit}
use Rattle.graph_form.specs.declared.node.Arm.{Arm}
use Rattle.site_checks.proofs.AlikeTypes.{all_more, node_same}
use Rattle.site_checks.proofs.alike.alike_at.Goals as goal

pub loop-arm-init : goal.loop-arm-init
loop-arm-init c = λ other has. (has, tt)

pub loop-arm-preserved : goal.loop-arm-preserved
loop-arm-preserved c = λ other has.
    let told = c.alike_in-alike.ensures other has in
    let before = c.loop-arm.invariant other told.0 in (
      before.0,
      all_more (λ (arm : Arm). has_bit arm.types c.args.rtype ≡ has_bit arm.types other) c.items-arm-items.result.now c.loop-arm.arm-index c.arm-item.result
          c.loop-arm-test.true c.arm-item.is before.1 told.1,
    )

pub returns : goal.returns
returns c = λ other has.
    let said = c.loop-arm.invariant other has in
    (said.0, node_same c.args.rtype other c.args.node.now c.items-arm-items.result.now c.items-arm-items.ensures c.loop-arm.arm-index c.loop-arm-test.false said.1)
