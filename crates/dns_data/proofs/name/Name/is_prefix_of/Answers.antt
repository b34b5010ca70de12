use Rattle.std.proofs.Common.{arith}
use Rattle.dns_data.proofs.Names.{is_prefix_means}
use Rattle.dns_data.proofs.Encodings.{octets_begin}
use Rattle.dns_data.proofs.name.Name.is_prefix_of.Goals as goal

pub returns-clause-prefix : goal.returns-clause-prefix
returns-clause-prefix c = is_prefix_means _ _ _ (grind (arith, octets_begin))
