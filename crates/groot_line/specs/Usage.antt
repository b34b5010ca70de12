-- The line on err where the words are no job.
use Rattle.std.specs.Prelude.{ℕ, List, codes}
use Rattle.groot_line.specs.declared.program.Program.{Program}
use Rattle.groot_line.specs.declared.program.Program.TheVariants.{Groot, GrootLarge}

-- the program's name, the commands with their operands and options, and a line feed
abbrev pub usage_line : Program → List ℕ
usage_line Groot = codes "usage: groot check META [--workers N] [--classes N] [--rewrites K] | ask META NAME TYPE | classes META [--classes N] | drill N [--workers N] | site META | recheck META REPORT | same META META | scope META NAME\n"
usage_line GrootLarge = codes "usage: groot-large check META [--workers N] [--classes N] [--rewrites K] | ask META NAME TYPE | classes META [--classes N] | drill N [--workers N] | site META | recheck META REPORT | same META META | scope META NAME | scopes META FILE\n"
