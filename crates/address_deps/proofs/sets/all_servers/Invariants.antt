use Rattle.std.proofs.Common.{◌≡◌, map, take}
use Rattle.dns_data.specs.Name.{Labels, is_among}
use Rattle.address_deps.proofs.sets.all_servers.Given as goal

-- the servers so far
abbrev pub invariant-loop-server : goal.invariant-loop-server
invariant-loop-server l = (name : Labels) → is_among l.all name ≡ is_among (map (λ server. server.name) (take l.server-index l.server-items)) name
