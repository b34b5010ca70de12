use Rattle.std.proofs.Common.{map, ◌∙◌}
use Rattle.std.proofs.lemmas.Result.{IfOk-weaker}
use Rattle.config_load.specs.declared.loaded.RowFiles.{RowFiles}
use Rattle.map_run.proofs.answered.rows_answered.Goals as goal

pub returns : goal.returns
returns c =
    IfOk-weaker c.rows_with_teller.result _ _ (λ found is. is ∙ (λ i. map (λ (row : RowFiles). c.in_ok-tellers.ensures row.server row.origin i) c.args.rows.now)) c.rows_with_teller.ensures
