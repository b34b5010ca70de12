use Rattle.job_scope.proofs.Scopes.{is_covered}
use Rattle.groot_run.specs.Outcome.{scope_rewrites}
use Rattle.groot_run.proofs.scopes.scope_with.Goals as goal

pub judged_with-requires-clause-covering : goal.judged_with-requires-clause-covering
judged_with-requires-clause-covering g c κs within = is_covered c.args.graphs.config scope_rewrites c.args.name.now c.labels.ensures.name
