use Rattle.query_verdicts.specs.Carried.{whole_config}
use Rattle.class_judge.proofs.WholeConfigs.{is_covered}
use Rattle.class_judge.proofs.laws.carrying.Goals as goal

pub returns : goal.returns
returns c = λ config rewrites fault. c.carrying.ensures (whole_config config rewrites) (is_covered config rewrites) fault
