use Rattle.job_scope.proofs.Scopes.{is_covered}
use Rattle.groot_run.specs.Outcome.{scope_of, scope_rewrites}
use Rattle.groot_run.proofs.ScopeTexts.{scope_ends}
use Rattle.groot_run.proofs.scope.scope.Goals as goal

pub judged-requires-clause-covering : goal.judged-requires-clause-covering
judged-requires-clause-covering g c κs within = is_covered c.args.config.now scope_rewrites c.args.scope.now c.labels.ensures.name

pub returns : goal.returns
returns g c = scope_ends c.args.names (scope_of c.args.config.now c.args.scope.now) _ c.judged.result c.ended.result c.ended.ensures c.judged.ensures
