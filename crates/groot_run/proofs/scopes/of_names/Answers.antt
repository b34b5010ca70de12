use Rattle.std.proofs.Common.{◌≡◌, subst}
use Rattle.std.specs.Prelude.{◌⊎◌}
use Rattle.query_verdicts.specs.Queries.{LimitedQueries}
use Rattle.run_endings.specs.Endings.{no_memory}
use Rattle.groot_run.specs.Outcome.{ScopesEach}
use Rattle.groot_run.proofs.ScopeTexts.{scopes_end}
use Rattle.groot_run.proofs.scopes.of_names.Goals as goal

pub returns-in-Ok : goal.returns-in-Ok
returns-in-Ok g c =
    subst (λ (queries : LimitedQueries). ScopesEach c.args.limit queries.config c.args.names.now c.ended.result ⊎ (c.ended.result ≡ no_memory)) c.in-Ok.ensures
    (scopes_end c.args.limit c.in-Ok.graphs.config c.args.names.now c.each_scope.result c.ended.result c.ended.ensures c.each_scope.ensures)
