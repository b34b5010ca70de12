use Rattle.std.proofs.Common.{◌≡◌, map, take}
use Rattle.plain_resolver.specs.KnownNames.{names_known}
use Rattle.plain_resolver.proofs.rounds.nothing_known.Given as goal

-- the names of the servers so far
abbrev pub invariant-loop-server : goal.invariant-loop-server
invariant-loop-server l = names_known l.known ≡ map (λ server. server.name) (take l.server-index l.server-items)
