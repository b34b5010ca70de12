use Rattle.std.proofs.Common.{inl, inr, subst}
use Rattle.query_verdicts.specs.Passed.{IsFirstServerPassed}
use Rattle.query_verdicts.specs.Queries.{LimitedQueries, ServerPasses}
use Rattle.map_run.specs.Limits.{WithinOrigins}
use Rattle.map_run.specs.Reached.{TellsRows}
use Rattle.map_run.proofs.reached_rows.by_graphs.Goals as goal

pub returns-in-Ok : goal.returns-in-Ok
returns-in-Ok c =
    let config = c.args.graphs.now.config in
    let rows = c.args.rows.now in
    let ending = c.by_views.result in
    elim c.by_views.ensures [
      | inl ends ↦ inl (inr (
        subst (λ (queries : LimitedQueries). ServerPasses queries → ⊥) c.requires.limits c.in-Ok.ensures.sets.none_passes,
        subst (λ (queries : LimitedQueries). WithinOrigins queries rows (TellsRows config rows ending) ending) c.requires.limits ends,
      ))
      | inr ran_out ↦ inr ran_out
    ]

pub returns-in-Err : goal.returns-in-Err
returns-in-Err c =
    let server = c.in-Err.server.now in
    elim c.too_many_states.ensures [
      | inl is ↦ inl (inl (
        server,
        subst (λ (queries : LimitedQueries). IsFirstServerPassed queries.config queries.rewrites queries.states server) c.requires.limits c.in-Err.ensures.passed,
        is,
      ))
      | inr ran_out ↦ inr ran_out
    ]
