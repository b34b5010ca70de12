use Rattle.std.proofs.Common.{◌≡◌, map, take}
use Rattle.std.specs.List.{filter}
use Rattle.dns_data.specs.declared.rr_type.RrType.TheVariants as types
use Rattle.zone_rules.specs.Apex.{is_type}
use Rattle.zone_rules.proofs.apex.soas_of.Given as goal

-- the SOA records so far
abbrev pub invariant-loop-rr : goal.invariant-loop-rr
invariant-loop-rr l = map (λ rr. rr.now) l.soas.items ≡ filter (is_type types.Soa) (take l.rr-index l.rrs)
