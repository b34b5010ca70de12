use Rattle.std.proofs.Common.{◌≡◌, List, map, drop}
use Rattle.dns_data.specs.declared.rdata.Rdata.{Rdata}
use Rattle.zone_tree.specs.OwnedLists.{set_of}
use Rattle.zone_tree.specs.Records.{first_in}
use Rattle.zone_tree.proofs.records.first_in.Given as goal

-- the first data are in the other sets
abbrev pub invariant-loop-set : goal.invariant-loop-set
invariant-loop-set l =
    (several : List Rdata) → first_in (map (set_of several) (drop l.set-index l.sets)) l.rtype ≡ first_in (map (set_of several) l.sets) l.rtype
