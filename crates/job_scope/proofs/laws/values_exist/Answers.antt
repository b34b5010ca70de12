use Rattle.job_scope.specs.Scoped.{scoped}
use Rattle.job_scope.proofs.Scopes.{scope_covers}
use Rattle.job_scope.proofs.laws.values_exist.Goals as goal

pub returns : goal.returns
returns c = λ config rewrites states name. c.values_exist.ensures (scoped config rewrites name) (scope_covers config name) states
