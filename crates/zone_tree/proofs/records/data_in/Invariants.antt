use Rattle.std.proofs.Common.{◌≡◌, map, drop}
use Rattle.zone_tree.specs.OwnedLists.{set_of}
use Rattle.zone_tree.specs.Records.{data_in}
use Rattle.zone_tree.proofs.records.data_in.Given as goal

-- the data are in the other sets
abbrev pub invariant-loop-set : goal.invariant-loop-set
invariant-loop-set l = data_in (map (set_of l.several) (drop l.set-index l.sets)) l.rtype ≡ data_in (map (set_of l.several) l.sets) l.rtype
