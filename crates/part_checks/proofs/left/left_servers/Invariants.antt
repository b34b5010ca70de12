use Rattle.std.proofs.Common.{◌≡◌, ◌++◌, map}
use Rattle.part_checks.specs.Parts.{held_by}
use Rattle.part_checks.specs.Taking.{with_held_zones}
use Rattle.part_checks.proofs.left.left_servers.Given as goal

-- what is left of the servers so far, and then of the others
abbrev pub invariant-loop-server : goal.invariant-loop-server
invariant-loop-server l =
    l.left.items ++ map (with_held_zones (held_by l.sets)) l.server-iterator ≡ map (with_held_zones (held_by l.sets)) l.fn.servers
