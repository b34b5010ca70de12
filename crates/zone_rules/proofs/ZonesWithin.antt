-- The records of a zone that is made of records lie at or below its origin.
use Rattle.std.proofs.Common.{◌≡◌, Bool, true, false, List, Option, Some, None, Result, Ok, Err, subst}
use Rattle.std.specs.Prelude.{if◌then◌else◌}
use Rattle.dns_data.specs.Answers.{◌>>=◌}
use Rattle.dns_data.specs.Distinct.{distinct}
use Rattle.dns_data.specs.Identical.{is_identical}
use Rattle.dns_data.specs.Name.{Labels, is_prefix}
use Rattle.dns_data.specs.declared.rdata.Rr.{Rr}
use Rattle.dns_data.specs.declared.rr_type.RrType.TheVariants as types
use Rattle.dns_data.proofs.Membership.{from_filter}
use Rattle.net_model.specs.declared.config.Zone.{Zone}
use Rattle.net_model.specs.Configured.{KeepsWithin}
use Rattle.zone_rules.specs.Apex.{apex_of, is_wildcard}
use Rattle.zone_rules.specs.Rules.{had, first_fault}
use Rattle.zone_rules.specs.ZoneOf.{within, unless_faulty, checked, zone_under, zone_of}
use Rattle.zone_rules.specs.declared.apex.Apex.{Apex}
use Rattle.zone_rules.specs.declared.fault.RuleFault.{RuleFault}
use Rattle.zone_rules.specs.declared.fault.RuleFault.TheVariants.{At}
use Rattle.zone_rules.specs.declared.fault.RuleCause.TheVariants.{NoSoa, StarOrigin}

-- the records within an origin, as a zone
abbrev zone_within : Labels → List Rr → Zone
zone_within origin rrs = record { origin = origin; rrs = within origin rrs }

unless_keeps : (origin : Labels) (rrs : List Rr) (zone : Zone) (fault : Option RuleFault) → unless_faulty fault origin (within origin rrs) ≡ Ok zone → KeepsWithin zone
unless_keeps origin rrs zone (Some fault) is = cc
unless_keeps origin rrs zone None is = by (had types.Soa (within origin rrs)) is where
  answer : Bool → Result Zone RuleFault
  answer b = if b then Ok (zone_within origin rrs) else Err (At 0 0 NoSoa)

  by : (b : Bool) → answer b ≡ Ok zone → KeepsWithin zone
  by true e =
      let same : zone_within origin rrs ≡ zone = cc in
      subst KeepsWithin same (λ rr has. (from_filter (λ (one : Rr). is_prefix origin one.owner) rrs rr has).1)
  by false e = cc

under_keeps : (rrs : List Rr) (zone : Zone) (apex : Apex) → zone_under rrs apex ≡ Ok zone → KeepsWithin zone
under_keeps rrs zone apex is = by (is_wildcard apex.name) is where
  answer : Bool → Result Zone RuleFault
  answer b = if b then Err (At apex.file apex.line StarOrigin) else checked apex.name (within apex.name rrs)

  by : (b : Bool) → answer b ≡ Ok zone → KeepsWithin zone
  by true e = cc
  by false e = unless_keeps apex.name rrs zone (first_fault apex.name (within apex.name rrs)) e

-- the records of a zone of records lie at or below its origin
pub keeps_within : (origin : Option Labels) (rrs : List Rr) (zone : Zone) → zone_of origin rrs ≡ Ok zone → KeepsWithin zone
keeps_within origin rrs zone is = by (apex_of origin (distinct is_identical rrs)) is where
  by : (apex : Result Apex RuleFault) → (apex >>= zone_under (distinct is_identical rrs)) ≡ Ok zone → KeepsWithin zone
  by (Ok apex) e = under_keeps (distinct is_identical rrs) zone apex e
  by (Err fault) e = cc
