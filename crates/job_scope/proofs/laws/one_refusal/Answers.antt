use Rattle.job_scope.specs.Scoped.{scoped}
use Rattle.job_scope.proofs.OneRefusal.{one_refusal, none_refused}
use Rattle.job_scope.proofs.laws.one_refusal.Goals as goal

pub returns-clause-one : goal.returns-clause-one
returns-clause-one c = λ config rewrites states name a b one other. one_refusal (scoped config rewrites name) states a b one other

pub returns-clause-none : goal.returns-clause-none
returns-clause-none c = λ config rewrites states name refused none is. none_refused (scoped config rewrites name) states refused none is
