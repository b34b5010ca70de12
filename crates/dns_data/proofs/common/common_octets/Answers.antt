use Rattle.std.proofs.Common.{sym, arith}
use Rattle.dns_data.proofs.CommonOctets.{eight_tell, last_tell}
use Rattle.dns_data.proofs.common.common_octets.Goals as goal

pub returns-then-common-lt8 : goal.returns-then-common-lt8
returns-then-common-lt8 c =
    sym ((eight_tell c.args.left.now c.args.right.now _ _ c.loop-passed.invariant c.common_of_eight-common.ensures).1 (omega arith))

pub loop-passed-preserved : goal.loop-passed-preserved
loop-passed-preserved c =
    let told = eight_tell c.args.left.now c.args.right.now _ _ c.loop-passed.invariant c.common_of_eight-common.ensures in
    omega (arith, told.0, told.2)

pub returns : goal.returns
returns c =
    let least = c.loop-passed.invariant in
    sym (last_tell c.args.left.now c.args.right.now _ _ (omega (arith, least)) (omega arith) c.common_of_eight.ensures)
