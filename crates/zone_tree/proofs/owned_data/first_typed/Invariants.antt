use Rattle.std.proofs.Common.{map, drop}
use Rattle.zone_tree.specs.OwnedData.{HaveSameData}
use Rattle.zone_tree.proofs.owned_data.first_typed.Given as goal

-- the data of each type are among the other records
abbrev pub invariant-loop-place : goal.invariant-loop-place
invariant-loop-place l = HaveSameData (map (λ rr. rr.now.rdata) l.own) (map (λ rr. rr.now.rdata) (drop l.place l.own))
