use Rattle.config_load.specs.Conf.{no_row}
use Rattle.config_load.proofs.ReadRows.{conf-loaded}
use Rattle.config_load.proofs.laws.rows_tell_files.Goals as goal

pub returns : goal.returns
returns c = record { config = conf-loaded no_row }
