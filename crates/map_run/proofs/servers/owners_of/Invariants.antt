-- So far there are the owners of the first records.
use Rattle.std.proofs.Common.{◌≡◌, map, take}
use Rattle.map_run.specs.Servers.{owners_of}
use Rattle.map_run.proofs.servers.owners_of.Given as goal

abbrev pub invariant-loop-naming : goal.invariant-loop-naming
invariant-loop-naming l = map (λ name. name.now) l.owners ≡ owners_of l.at_origin (map (λ one. one.now) (take l.naming-index l.namings))
