use Rattle.std.proofs.Common.{◌≡◌, ◌||◌, map, drop}
use Rattle.std.specs.List.{list_any}
use Rattle.dns_data.specs.Rdata.{has_type}
use Rattle.dns_data.specs.TypeSet.{has_bit}
use Rattle.dns_data.specs.declared.rr_type.RrType.{RrType}
use Rattle.zone_tree.proofs.records.types_of.Given as goal

-- a type is in the set so far or among the other data
abbrev pub invariant-loop-rr : goal.invariant-loop-rr
invariant-loop-rr l =
    (rtype : RrType)
    → (has_bit l.types rtype || list_any (has_type rtype) (map (λ rr. rr.now.rdata) (drop l.rr-index l.own)))
    ≡ list_any (has_type rtype) (map (λ rr. rr.now.rdata) l.own)
