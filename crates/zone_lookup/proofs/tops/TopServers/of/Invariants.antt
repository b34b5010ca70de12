use Rattle.std.proofs.Common.{◌≡◌, map, take}
use Rattle.zone_lookup.specs.Tops.{ListsTops, with_tops}
use Rattle.zone_lookup.proofs.tops.TopServers.of.Given as goal

-- the top servers so far are listed
abbrev pub invariant-loop-top : goal.invariant-loop-top
invariant-loop-top l =
    (map (λ top. top.now) l.tops.items ≡ take l.top-index l.top-items) × ListsTops (with_tops l.hosts (map (λ top. top.now) l.tops.items)) l.places
