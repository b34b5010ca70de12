use Rattle.std.proofs.Common.{map, take}
use Rattle.zone_lookup.proofs.LikeTops.{StandSoFar}
use Rattle.zone_lookup.proofs.tops.TopServers.unlike.Given as goal

-- those that are listed stand for the top servers so far
abbrev pub invariant-loop-top : goal.invariant-loop-top
invariant-loop-top l = StandSoFar l.hosts (take l.top-index l.top-items) (map (λ top. top.now) l.tops.items) l.places
