use Rattle.config_load.proofs.KnownRows.{none_earlier}
use Rattle.config_load.proofs.earlier.EarlierRows.new.Goals as goal

pub returns : goal.returns
returns c skips meta told all rows = none_earlier skips meta told all rows (record { by_number = c.new.result }) c.new.ensures.empty
