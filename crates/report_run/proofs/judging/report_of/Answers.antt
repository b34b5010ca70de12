use Rattle.class_judge.proofs.WholeConfigs.{is_covered}
use Rattle.report_run.proofs.judging.report_of.Goals as goal

pub judged-requires-clause-covering : goal.judged-requires-clause-covering
judged-requires-clause-covering g c κs within = is_covered c.args.config.now c.args.limits.rewrites
