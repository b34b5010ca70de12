use Rattle.std.proofs.Common.{◌≡◌, filter, map, take}
use Rattle.dns_data.specs.Name.{is_among}
use Rattle.address_deps.proofs.sets.in_order.Given as goal

-- those of the servers so far
abbrev pub invariant-loop-server : goal.invariant-loop-server
invariant-loop-server l = l.names ≡ filter (is_among l.set) (map (λ server. server.name) (take l.server-index l.server-items))
