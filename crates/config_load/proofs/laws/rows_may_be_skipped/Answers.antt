use Rattle.config_load.proofs.SkippedRows.{skipped_read}
use Rattle.config_load.proofs.laws.rows_may_be_skipped.Goals as goal

pub returns : goal.returns
returns c = skipped_read
