use Rattle.std.proofs.Common.{take}
use Rattle.std.specs.Prelude.{Contains}
use Rattle.net_model.specs.declared.config.Server.{Server}
use Rattle.straight_walks.specs.Regions.{HasOrigins}
use Rattle.straight_walks.proofs.OriginSets.{names_of}
use Rattle.straight_walks.proofs.origins.origin_set.Given as goal

-- the origins of the servers so far are there
abbrev pub invariant-loop-server : goal.invariant-loop-server
invariant-loop-server l =
    (server : Server) → Contains (take l.server-index l.server-items) server → HasOrigins server.zones (names_of l.origins.keys)
