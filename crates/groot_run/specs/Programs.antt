-- How large what a program reads may be, and what files give to it.
use Rattle.std.specs.Prelude.{ℕ, List}
use Rattle.io_edges.specs.Files.{FilesTold}
use Rattle.net_model.specs.declared.config.Config.{Config}
use Rattle.config_load.specs.Conf.{conf_within}
use Rattle.config_load.specs.Limits.{largest_limits, usual_limits}
use Rattle.config_load.specs.Reading.{Reading}
use Rattle.config_load.specs.declared.limits.Limits.{Limits}
use Rattle.groot_line.specs.declared.program.Program.{Program}
use Rattle.groot_line.specs.declared.program.Program.TheVariants.{Groot, GrootLarge}

-- the limits of what the program reads
abbrev pub limits_of : Program → Limits
limits_of Groot = usual_limits
limits_of GrootLarge = largest_limits

-- what the files give to the program for a metadata file's name
abbrev pub conf_of : Program → List ℕ → FilesTold → Reading Config
conf_of program = conf_within (limits_of program)
