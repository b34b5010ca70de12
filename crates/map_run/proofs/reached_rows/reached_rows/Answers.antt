use Rattle.std.proofs.Common.{◌≡◌, ap, subst}
use Rattle.std.specs.Prelude.{◌⊎◌}
use Rattle.net_model.specs.declared.config.Config.{Config}
use Rattle.query_verdicts.specs.Queries.{LimitedQueries}
use Rattle.run_endings.specs.Endings.{no_memory}
use Rattle.map_run.specs.Limits.{WithinLimits}
use Rattle.map_run.specs.Reached.{TellsRows}
use Rattle.map_run.proofs.reached_rows.reached_rows.Goals as goal

pub returns-in-Ok : goal.returns-in-Ok
returns-in-Ok c =
    let rows = c.args.rows.now in
    let ending = c.by_graphs.result in
    subst (λ (config : Config). WithinLimits config rows (TellsRows config rows ending) ending ⊎ (ending ≡ no_memory))
    (ap (λ (queries : LimitedQueries). queries.config) c.in-Ok.ensures) c.by_graphs.ensures
