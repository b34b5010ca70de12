use Rattle.std.proofs.Common.{arith}
use Rattle.dns_data.proofs.CommonOctets.{order_inside, order_ends}
use Rattle.dns_data.proofs.common.octets_order.Goals as goal

pub returns-then-common-min : goal.returns-then-common-min
returns-then-common-min c =
    order_inside c.args.left.now c.args.right.now _ _ c.common_octets-common.ensures (omega arith) (omega arith) c.cmp.ensures

pub returns-else-common-min : goal.returns-else-common-min
returns-else-common-min c =
    order_ends c.args.left.now c.args.right.now _ _ c.common_octets-common.ensures (omega arith) c.cmp-else-common-min.ensures
