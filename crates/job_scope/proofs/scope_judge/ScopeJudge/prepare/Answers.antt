use Rattle.std.proofs.Common.{◌∙◌, ap}
use Rattle.net_model.specs.declared.config.Config.{Config}
use Rattle.query_verdicts.specs.Queries.{LimitedQueries}
use Rattle.job_scope.specs.Scoped.{scoped}
use Rattle.job_scope.proofs.scope_judge.ScopeJudge.prepare.Goals as goal

pub into_judge-requires-clause-subject : goal.into_judge-requires-clause-subject
into_judge-requires-clause-subject g c =
    ap (λ (queries : LimitedQueries). scoped queries.config queries.rewrites c.args.scope.now) c.in_ok-graphs.ensures ∙ c.requires.subject

pub into_judge-requires-clause-states : goal.into_judge-requires-clause-states
into_judge-requires-clause-states g c = ap (λ (queries : LimitedQueries). queries.states) c.in_ok-graphs.ensures ∙ c.requires.states

pub invariant_of-result : goal.invariant_of-result
invariant_of-result g c = (
  c.args.rewrites,
  c.args.scope.now,
  ap (λ (config : Config). scoped config c.args.rewrites c.args.scope.now)
      (c.in_ok-judge.ensures.config ∙ ap (λ (queries : LimitedQueries). queries.config) c.in_ok-graphs.ensures)
      ∙ c.requires.subject,
)
