use Rattle.std.proofs.Common.{ap, length, arith}
use Rattle.dns_data.proofs.CommonLabels.{few_passed}
use Rattle.dns_data.proofs.labels.Labels.common_len.Goals as goal

pub returns-clause-within : goal.returns-clause-within
returns-clause-within c = omega (arith, few_passed _ _ _ _ _ _ c.past_common.ensures.past, ap length c.self.view_is)
