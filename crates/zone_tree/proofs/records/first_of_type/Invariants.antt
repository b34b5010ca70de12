use Rattle.std.proofs.Common.{◌≡◌, map, drop}
use Rattle.std.specs.List.{filter}
use Rattle.dns_data.specs.Rdata.{has_type}
use Rattle.zone_tree.proofs.records.first_of_type.Given as goal

-- the data of the type are among the other records
abbrev pub invariant-loop-place : goal.invariant-loop-place
invariant-loop-place l =
    filter (has_type l.rtype) (map (λ rr. rr.now.rdata) (drop l.place l.own)) ≡ filter (has_type l.rtype) (map (λ rr. rr.now.rdata) l.own)
