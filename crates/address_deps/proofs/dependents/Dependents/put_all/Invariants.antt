use Rattle.std.proofs.Common.{map, take}
use Rattle.zone_lookup.specs.ListedFor.{IsListedFor}
use Rattle.address_deps.proofs.dependents.Dependents.put_all.Given as goal

-- listed for the names so far
abbrev pub invariant-loop-name : goal.invariant-loop-name
invariant-loop-name l = IsListedFor l.place (map (λ name. name.now) (take l.name-index l.names)) l.fn.self.places l.self.places
