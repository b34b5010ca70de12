-- What is kept of the records before one, and what it tells of the rules: for the contracts of the loop alone that
-- goes through the records.
use Rattle.std.specs.Prelude.{◌≡◌, Bool, true, ◌&&◌, ◌||◌, List, if◌then◌else◌, Option, Some, None}
use Rattle.std.specs.BTreeSet as tree
use Rattle.std.specs.Option.{option_map}
use Rattle.dns_data.specs.Name.{Labels, name_cmp}
use Rattle.dns_data.specs.declared.rdata.Rr.{Rr}
use Rattle.dns_data.specs.declared.rr_type.RrType.TheVariants as types
use Rattle.zone_rules.specs.Apex.{is_type}
use Rattle.zone_rules.specs.Rules.{had, had_at, had_other_at, is_soa_elsewhere, is_star_record}
use Rattle.zone_rules.specs.declared.fault.RuleCause.{RuleCause}
use Rattle.zone_rules.specs.declared.fault.RuleCause.TheVariants.{TwoSoas, SoaElsewhere, CnameAndOther, TwoCnames, TwoDnames, StarRecord}
use Rattle.zone_rules.specs.declared.fault.RuleFault.{RuleFault}
use Rattle.zone_rules.specs.declared.fault.RuleFault.TheVariants.{At}
use Rattle.zone_rules.specs.declared.rules.Before.{Before}
use denote.Bor.{Bor}

-- the name is among these
abbrev pub has_name : tree.BTreeSet (Bor Labels) → Labels → Bool
has_name names name = tree.contains_by (λ other. name_cmp name other.now) names

-- what is kept are these records, as far as rules ask for them; CNAME records and those of other types at owners alone
-- that may have a rival
pub record IsSummaryOf (may_have : Labels → Bool) (kept : Before) (before : List Rr) : Type 0 where
  pub has_soa : kept.has_soa ≡ had types.Soa before
  pub cnames : (owner : Labels) → may_have owner ≡ true → has_name kept.cnames owner ≡ had_at types.Cname owner before
  pub others : (owner : Labels) → may_have owner ≡ true → has_name kept.others owner ≡ had_other_at types.Cname owner before
  pub dnames : (owner : Labels) → has_name kept.dnames owner ≡ had_at types.Dname owner before

-- the first rule that the record breaks, by what is kept, where it may have a rival at its owner or hasn't any
abbrev pub rule_in : Before → Bool → Labels → Rr → Option RuleCause
rule_in kept has_rival origin rr =
    if is_soa_elsewhere origin rr then Some SoaElsewhere
    else (if is_type types.Soa rr && kept.has_soa then Some TwoSoas
    else (if is_star_record rr then Some StarRecord
    else (if has_rival && is_type types.Cname rr && has_name kept.cnames rr.owner then Some TwoCnames
    else (if has_rival && (if is_type types.Cname rr then has_name kept.others rr.owner else has_name kept.cnames rr.owner)
    then Some CnameAndOther
    else (if is_type types.Dname rr && has_name kept.dnames rr.owner then Some TwoDnames
    else None)))))

-- the record's first fault, by what is kept
abbrev pub fault_in : Before → Bool → Labels → Rr → Option RuleFault
fault_in kept has_rival origin rr = option_map (λ cause. At rr.file rr.line cause) (rule_in kept has_rival origin rr)

-- an SOA, an NS or a DNAME record, which may break a rule also without a rival
abbrev pub is_watched : Rr → Bool
is_watched rr = is_type types.Soa rr || (is_type types.Ns rr || is_type types.Dname rr)
