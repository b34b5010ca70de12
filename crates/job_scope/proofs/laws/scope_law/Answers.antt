use Rattle.job_scope.proofs.Scopes.{scope_law}
use Rattle.job_scope.proofs.laws.scope_law.Goals as goal

pub returns : goal.returns
returns c = λ config rewrites name fault. scope_law config rewrites name fault
