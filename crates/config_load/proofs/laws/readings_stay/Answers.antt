use Rattle.config_load.proofs.Steady.{conf_is_steady, conf_unless_is_steady, file_is_steady}
use Rattle.config_load.proofs.laws.readings_stay.Goals as goal

pub returns : goal.returns
returns c = record { conf = conf_is_steady; unless = conf_unless_is_steady; file = file_is_steady }
