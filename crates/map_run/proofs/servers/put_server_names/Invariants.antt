-- So far there are the names of the first servers.
use Rattle.std.proofs.Common.{◌≡◌, ◌++◌, map, take}
use Rattle.map_run.proofs.servers.put_server_names.Given as goal

abbrev pub invariant-loop-server : goal.invariant-loop-server
invariant-loop-server l = map (λ name. name.now) l.names ≡ map (λ name. name.now) l.fn.names ++ map (λ server. server.name) (take l.server-index l.servers)
