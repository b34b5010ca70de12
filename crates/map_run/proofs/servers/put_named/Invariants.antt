-- So far there are the names of the first name servers.
use Rattle.std.proofs.Common.{◌≡◌, ◌++◌, map, take}
use Rattle.map_run.proofs.servers.put_named.Given as goal

abbrev pub invariant-loop-naming : goal.invariant-loop-naming
invariant-loop-naming l = map (λ name. name.now) l.names ≡ map (λ name. name.now) l.fn.names ++ map (λ naming. naming.server) (take l.naming-index l.namings)
