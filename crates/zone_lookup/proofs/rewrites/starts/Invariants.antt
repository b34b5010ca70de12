use Rattle.std.proofs.Common.{◌≡◌, true, None, map, take}
use Rattle.net_model.specs.Step.{arrived}
use Rattle.zone_lookup.proofs.rewrites.starts.Given as goal

-- the states at the top servers so far
abbrev pub invariant-loop-server : goal.invariant-loop-server
invariant-loop-server l = l.states.items ≡ map (arrived l.hosts l.query true 0 None) (take l.server-index l.tops)
