use Rattle.query_verdicts.proofs.PassingNames.{class_passes}
use Rattle.query_verdicts.proofs.laws.passing_names.Goals as goal

pub returns : goal.returns
returns c = λ config rewrites states ground covers passes. class_passes config rewrites states ground covers passes
