use Rattle.std.proofs.Common.{ap}
use Rattle.query_verdicts.specs.Queries.{LimitedQueries}
use Rattle.groot_run.proofs.HandedChecks.{of_the_config}
use Rattle.groot_run.proofs.site.find.Goals as goal

pub returns-in-Ok : goal.returns-in-Ok
returns-in-Ok g c = of_the_config _ _ _ c.find_by.result (ap (λ (queries : LimitedQueries). queries.config) c.in-Ok.ensures) c.find_by.ensures
