use Rattle.std.proofs.Common.{◌≡◌, ◌++◌, map, take}
use Rattle.std.specs.List.{flat_map}
use Rattle.address_deps.specs.Dependents.{turns_await}
use Rattle.address_deps.proofs.dependents.put_nodes.Given as goal

-- those of the nodes so far
abbrev pub invariant-loop-turns : goal.invariant-loop-turns
invariant-loop-turns l =
    map (λ name. name.now) l.names.items ≡ map (λ name. name.now) l.fn.names.items ++ flat_map turns_await (take l.turns-index l.nodes)
