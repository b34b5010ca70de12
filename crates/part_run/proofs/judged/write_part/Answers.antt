use Rattle.class_judge.proofs.WholeConfigs.{is_covered}
use Rattle.part_run.proofs.judged.write_part.Goals as goal

pub judged-requires-clause-covering : goal.judged-requires-clause-covering
judged-requires-clause-covering g c κs within = is_covered c.args.left.now c.args.limits.rewrites
