use Rattle.std.proofs.Common.{map}
use Rattle.dns_data.specs.Name.{name_cmp}
use Rattle.zone_tree.proofs.InPlace.{StandsBehind}
use Rattle.zone_tree.proofs.order.place_of_server.Given as goal

-- the name stands behind the names looked at
abbrev pub invariant-loop-place : goal.invariant-loop-place
invariant-loop-place l = StandsBehind name_cmp l.server (map (λ server. server.now) l.servers) l.place
