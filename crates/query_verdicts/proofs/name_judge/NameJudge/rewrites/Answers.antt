use Rattle.std.proofs.Common.{◌∙◌, ap}
use Rattle.query_verdicts.specs.Queries.{LimitedQueries}
use Rattle.query_verdicts.proofs.name_judge.NameJudge.rewrites.Goals as goal

pub returns-clause-rewrites : goal.returns-clause-rewrites
returns-clause-rewrites g c = c.rewrites.ensures ∙ ap (λ (q : LimitedQueries). q.rewrites) c.self.invariant.queries_are

pub returns-clause-covering : goal.returns-clause-covering
returns-clause-covering g c = c.self.invariant.covering
