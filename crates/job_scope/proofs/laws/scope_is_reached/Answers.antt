use Rattle.job_scope.specs.Scoped.{scoped}
use Rattle.job_scope.proofs.Scopes.{is_covered}
use Rattle.job_scope.proofs.laws.scope_is_reached.Goals as goal

pub returns : goal.returns
returns c = λ config name children is are limit. c.part_is_reached.ensures (scoped config 0 name) children (is_covered config 0 name is) are limit
