use Rattle.std.proofs.Common.{◌≡◌, map, take}
use Rattle.net_model.specs.declared.config.Server.{Server}
use Rattle.part_checks.proofs.targets.names_of_servers.Given as goal

-- the names so far
abbrev pub invariant-loop-server : goal.invariant-loop-server
invariant-loop-server l = l.names ≡ map (λ (server : Server). server.name) (take l.server-index l.server-items)
