-- That the files of a drill give a configuration.
use Rattle.std.proofs.Common.{codes, subst, arith}
use Rattle.net_model.specs.declared.config.Config.{Config}
use Rattle.config_load.specs.Reading.{Reading}
use Rattle.run_endings.specs.Endings.{OfReading}
use Rattle.groot_line.specs.Program.{usual_names}
use Rattle.groot_line.specs.declared.program.Program.{Program}
use Rattle.groot_line.specs.declared.program.Program.TheVariants.{Groot, GrootLarge}
use Rattle.config_load.specs.Limits.{AreUsual}
use Rattle.groot_run.specs.Outcome.{Drills}
use Rattle.groot_run.specs.Programs.{limits_of}
use Rattle.groot_run.proofs.laws.drills_read.Goals as goal

-- no program reads less than is usual
are_usual : (program : Program) → AreUsual (limits_of program)
are_usual Groot = record { octets = omega arith; records = omega arith; includes = omega arith; rows = omega arith }
are_usual GrootLarge = record { octets = omega arith; records = omega arith; includes = omega arith; rows = omega arith }

pub returns : goal.returns
returns c = λ program zones workers some few.
    let read = c.drill_files_read.ensures (limits_of program) (are_usual program) zones some few in
    (read.0, λ told sites ending is. subst (λ (reading : Reading Config). OfReading (codes "meta.json") (Drills (usual_names program) zones) reading ending) read.1 is)
