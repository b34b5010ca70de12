use Rattle.query_verdicts.proofs.TreeValues.{names_below, values, verdict_of}
use Rattle.query_verdicts.proofs.laws.values_exist.Goals as goal

pub returns : goal.returns
returns c = λ subject covers states. (names_below subject covers, verdict_of subject covers states, values subject covers states)
