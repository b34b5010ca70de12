-- So far what the first records name is listed.
use Rattle.std.proofs.Common.{take}
use Rattle.map_run.specs.NameLists.{Lists}
use Rattle.map_run.specs.Servers.{names_server}
use Rattle.map_run.proofs.servers.by_server.Given as goal

abbrev pub invariant-loop-naming : goal.invariant-loop-naming
invariant-loop-naming l = Lists names_server (take l.naming-index l.namings) l.lists
