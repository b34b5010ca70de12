use Rattle.std.proofs.Common.{rules}
use Rattle.dns_data.proofs.CommonOctets.{eight_common}
use Rattle.dns_data.proofs.common.common_of_eight.Goals as goal

pub returns : goal.returns
returns c =
    eight_common _ _ _ _ _ c.requires.left c.requires.right (search rules) (search rules) c.number_at.ensures c.number_at-2.ensures
