use Rattle.std.proofs.Common.{map, drop}
use Rattle.dns_data.specs.RrType.{types}
use Rattle.zone_tree.proofs.OwnedLists.{StandBehind}
use Rattle.zone_tree.proofs.owned_lists.put_sets.Given as goal

-- the sets behind those of other names are those of the types so far
abbrev pub invariant-loop-rtype : goal.invariant-loop-rtype
invariant-loop-rtype l =
    StandBehind (map (λ rr. rr.now.rdata) l.own) (drop l.rtype-index types) l.fn.sets.items l.fn.several.items l.start l.sets.items l.several.items
