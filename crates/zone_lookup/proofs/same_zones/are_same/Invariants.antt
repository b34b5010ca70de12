use Rattle.std.proofs.Common.{◌≡◌, take}
use Rattle.zone_lookup.proofs.same_zones.are_same.Given as goal

-- those so far are the same
abbrev pub invariant-loop-place : goal.invariant-loop-place
invariant-loop-place g l = take l.place l.some ≡ take l.place l.others
