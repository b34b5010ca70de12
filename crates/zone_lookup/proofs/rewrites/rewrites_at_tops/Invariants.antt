use Rattle.std.proofs.Common.{◌≡◌, ◌+◌, ◌&&◌, Some, map, take}
use Rattle.net_model.specs.declared.walk.Hop.TheVariants.{Rewrite}
use Rattle.net_model.specs.Step.{Go, arrived}
use Rattle.zone_lookup.specs.Steps.{branch_of}
use Rattle.zone_lookup.proofs.rewrites.rewrites_at_tops.Given as goal

-- the steps at the top servers so far
abbrev pub invariant-loop-server : goal.invariant-loop-server
invariant-loop-server l =
    map branch_of l.steps.items
    ≡ map (λ server. Go (Rewrite l.place l.by_dname l.to)
    (arrived l.hosts l.to (l.state.carried && l.by_dname) (l.state.used + 1) (Some l.place) server)) (take l.server-index l.tops)
