use Rattle.config_load.proofs.RowsRead.{rows_read}
use Rattle.config_load.proofs.laws.rows_have_zones.Goals as goal

pub returns : goal.returns
returns c limits meta told all reads = rows_read limits meta told all reads
