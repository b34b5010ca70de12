-- That the files of a drill give a configuration.
use Rattle.drill_laws.proofs.Loaded.{drill_reads}
use Rattle.drill_laws.proofs.laws.drill_files_read.Goals as goal

pub returns : goal.returns
returns c = λ limits usual zones some few. drill_reads limits usual zones some few
