use Rattle.std.proofs.Common.{map, take}
use Rattle.zone_lookup.specs.Resting.{AreEnds}
use Rattle.zone_lookup.proofs.resting.given_at.Given as goal

-- walks end at the servers so far, and it's told whether one of these gives an address
abbrev pub invariant-loop-server : goal.invariant-loop-server
invariant-loop-server l = AreEnds l.hosts l.name (map (λ server. server.now) (take l.server-index l.servers)) l.given
