-- those so far are the same
use Rattle.std.proofs.Common.{◌≡◌, map, take}
use Rattle.zone_copies.specs.Plain.{plain}
use Rattle.zone_copies.proofs.same.are_same.Given as goal

abbrev pub invariant-loop-place : goal.invariant-loop-place
invariant-loop-place l = map plain (take l.place l.some) ≡ map plain (take l.place l.others)
