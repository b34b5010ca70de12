-- The zone of records, or its first fault.
use Rattle.std.specs.Prelude.{List, if◌then◌else◌, Option, Some, None, Result, Ok, Err}
use Rattle.std.specs.List.{filter}
use Rattle.dns_data.specs.Answers.{◌>>=◌}
use Rattle.dns_data.specs.Distinct.{distinct}
use Rattle.dns_data.specs.Identical.{is_identical}
use Rattle.dns_data.specs.Name.{Labels, is_prefix}
use Rattle.dns_data.specs.declared.rdata.Rr.{Rr}
use Rattle.dns_data.specs.declared.rr_type.RrType.TheVariants as types
use Rattle.net_model.specs.declared.config.Zone.{Zone}
use Rattle.zone_rules.specs.Apex.{apex_of, is_wildcard}
use Rattle.zone_rules.specs.Rules.{had, first_fault}
use Rattle.zone_rules.specs.declared.apex.Apex.{Apex}
use Rattle.zone_rules.specs.declared.fault.RuleFault.{RuleFault}
use Rattle.zone_rules.specs.declared.fault.RuleFault.TheVariants.{At}
use Rattle.zone_rules.specs.declared.fault.RuleCause.TheVariants.{NoSoa, StarOrigin}

-- the records at or below an origin
abbrev pub within : Labels → List Rr → List Rr
within origin rrs = filter (λ rr. is_prefix origin rr.owner) rrs

-- the zone, unless a record breaks a rule or no SOA record is there
abbrev pub unless_faulty : Option RuleFault → Labels → List Rr → Result Zone RuleFault
unless_faulty (Some fault) origin rrs = Err fault
unless_faulty None origin rrs =
    if had types.Soa rrs then Ok (record { origin = origin; rrs = rrs }) else Err (At 0 0 NoSoa)

-- the zone of records that lie at or below the origin
abbrev pub checked : Labels → List Rr → Result Zone RuleFault
checked origin rrs = unless_faulty (first_fault origin rrs) origin rrs

-- the zone of distinct records under an origin, which is no wildcard: this profile refuses it, RFC 4592 section 4.1
-- lets it stand
abbrev pub zone_under : List Rr → Apex → Result Zone RuleFault
zone_under rrs apex =
    if is_wildcard apex.name then Err (At apex.file apex.line StarOrigin) else checked apex.name (within apex.name rrs)

-- the zone of records: of identical ones the first; the origin; the records at or below it; their rules in file order
abbrev pub zone_of : Option Labels → List Rr → Result Zone RuleFault
zone_of origin rrs = apex_of origin (distinct is_identical rrs) >>= zone_under (distinct is_identical rrs)
