use Rattle.std.proofs.Common.{◌≡◌, map, take}
use Rattle.report_check.proofs.learning.server_names.Given as goal

-- the names of the servers so far
abbrev pub invariant-loop-server : goal.invariant-loop-server
invariant-loop-server l = l.names ≡ map (λ server. server.name) (take l.server-index l.server-items)
