use Rattle.std.proofs.Common.{◌≡◌, Bor, map, flat_map, take}
use Rattle.net_model.specs.declared.config.Server.{Server}
use Rattle.net_model.specs.declared.config.Zone.{Zone}
use Rattle.part_checks.proofs.zones.zones_of.Given as goal

-- the zones of the servers so far
abbrev pub invariant-loop-server : goal.invariant-loop-server
invariant-loop-server l = map (λ (zone : Bor Zone). zone.now) l.all.items ≡ flat_map (λ (server : Server). server.zones) (take l.server-index l.server-items)
