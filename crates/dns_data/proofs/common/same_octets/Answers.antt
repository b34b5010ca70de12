use Rattle.std.proofs.Common.{arith}
use Rattle.dns_data.proofs.CommonOctets.{same_tell}
use Rattle.dns_data.proofs.common.same_octets.Goals as goal

pub returns : goal.returns
returns c = same_tell c.args.left.now c.args.right.now _ c.common_octets.ensures (omega arith)
