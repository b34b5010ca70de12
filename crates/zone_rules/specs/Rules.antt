-- The rules of a zone. Each is a statement on a record and the records before it.
use Rattle.std.specs.Prelude.{Bool, not, ◌&&◌, ◌||◌, List, [], ◌∷◌, ◌++◌, if◌then◌else◌, Option, Some, None}
use Rattle.std.specs.List.{list_any}
use Rattle.std.specs.Option.{option_or, option_map}
use Rattle.dns_data.specs.Name.{Labels, name_eq}
use Rattle.dns_data.specs.declared.rdata.Rr.{Rr}
use Rattle.dns_data.specs.declared.rr_type.RrType.{RrType}
use Rattle.dns_data.specs.declared.rr_type.RrType.TheVariants as types
use Rattle.zone_rules.specs.Apex.{is_type, is_wildcard}
use Rattle.zone_rules.specs.declared.fault.RuleCause.{RuleCause}
use Rattle.zone_rules.specs.declared.fault.RuleCause.TheVariants.{TwoSoas, SoaElsewhere, CnameAndOther, TwoCnames, TwoDnames, StarRecord}
use Rattle.zone_rules.specs.declared.fault.RuleFault.{RuleFault}
use Rattle.zone_rules.specs.declared.fault.RuleFault.TheVariants.{At}

-- some record before has this type
abbrev pub had : RrType → List Rr → Bool
had rtype before = list_any (is_type rtype) before

-- the owner has a record of this type before
abbrev pub had_at : RrType → Labels → List Rr → Bool
had_at rtype owner before = list_any (λ rr. name_eq owner rr.owner && is_type rtype rr) before

-- the owner has a record of another type than this before
abbrev pub had_other_at : RrType → Labels → List Rr → Bool
had_other_at rtype owner before = list_any (λ rr. name_eq owner rr.owner && not (is_type rtype rr)) before

-- an SOA record that isn't at the origin (RFC 1035 section 5.2)
abbrev pub is_soa_elsewhere : Labels → Rr → Bool
is_soa_elsewhere origin rr = is_type types.Soa rr && not (name_eq rr.owner origin)

-- a second SOA record (RFC 1035 section 5.2)
abbrev pub is_second_soa : List Rr → Rr → Bool
is_second_soa before rr = is_type types.Soa rr && had types.Soa before

-- an NS record of a wildcard, which RFC 4592 section 4.2 discourages and this profile refuses, or a DNAME record of one
-- (RFC 4592 section 4.4)
abbrev pub is_star_record : Rr → Bool
is_star_record rr = (is_type types.Ns rr || is_type types.Dname rr) && is_wildcard rr.owner

-- a second CNAME record of an owner (RFC 2181 section 10.1)
abbrev pub is_second_cname : List Rr → Rr → Bool
is_second_cname before rr = is_type types.Cname rr && had_at types.Cname rr.owner before

-- a CNAME record beside a record of another type, or the other way round (RFC 1034 section 3.6.2)
abbrev pub is_beside_cname : List Rr → Rr → Bool
is_beside_cname before rr =
    if is_type types.Cname rr then had_other_at types.Cname rr.owner before else had_at types.Cname rr.owner before

-- a second DNAME record of an owner (RFC 6672 section 2.4)
abbrev pub is_second_dname : List Rr → Rr → Bool
is_second_dname before rr = is_type types.Dname rr && had_at types.Dname rr.owner before

-- the first rule that the record breaks, behind the records before it
abbrev pub rule_at : Labels → List Rr → Rr → Option RuleCause
rule_at origin before rr =
    if is_soa_elsewhere origin rr then Some SoaElsewhere
    else (if is_second_soa before rr then Some TwoSoas
    else (if is_star_record rr then Some StarRecord
    else (if is_second_cname before rr then Some TwoCnames
    else (if is_beside_cname before rr then Some CnameAndOther
    else (if is_second_dname before rr then Some TwoDnames
    else None)))))

-- the fault of the first record that breaks a rule, behind the records before
abbrev pub first_fault_behind : Labels → List Rr → List Rr → Option RuleFault
first_fault_behind origin before [] = None
first_fault_behind origin before (rr ∷ rrs) =
    option_or (option_map (λ cause. At rr.file rr.line cause) (rule_at origin before rr))
    (first_fault_behind origin (before ++ rr ∷ []) rrs)

-- the fault of the first record that breaks a rule
abbrev pub first_fault : Labels → List Rr → Option RuleFault
first_fault origin rrs = first_fault_behind origin [] rrs
