use Rattle.query_verdicts.specs.Carried.{whole_config}
use Rattle.walk_laws.proofs.JoinedGround.{own_covers}
use Rattle.class_judge.proofs.laws.values_exist.Goals as goal

pub returns : goal.returns
returns c = λ config rewrites states. c.values_exist.ensures (whole_config config rewrites) (own_covers config) states
