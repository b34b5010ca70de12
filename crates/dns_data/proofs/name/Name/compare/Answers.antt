use Rattle.dns_data.proofs.Names.{name_cmp_equal}
use Rattle.dns_data.proofs.name.Name.compare.Goals as goal

pub returns-clause-equal : goal.returns-clause-equal
returns-clause-equal c = name_cmp_equal _ _ _ cc
