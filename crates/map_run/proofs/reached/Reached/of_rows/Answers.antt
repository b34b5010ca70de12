use Rattle.std.proofs.Common.{List, map, ap}
use Rattle.config_load.specs.declared.loaded.RowFiles.{RowFiles}
use Rattle.map_run.specs.Reached.{reached_word}
use Rattle.map_run.specs.ReachedRows.{is_row_answered}
use Rattle.map_run.specs.declared.answered.Answered.{Answered}
use Rattle.map_run.proofs.reached.Reached.of_rows.Goals as goal

pub returns-clause-held : goal.returns-clause-held
returns-clause-held c =
    ap (λ (answered : List Answered). map (λ (row : RowFiles). reached_word (is_row_answered answered row)) c.args.rows.now) c.new.ensures
