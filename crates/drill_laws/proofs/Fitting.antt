-- Records that fit: none is identical to one before it, each lies below the origin, and none breaks a rule. They are a
-- zone.
use Rattle.std.proofs.Common.{◌≡◌, Bool, true, false, cond, not, ◌&&◌, ◌||◌, List, [], ◌∷◌, ◌++◌, Option, Some, None, Ok, Err, if◌then◌else◌, filter, refl, ap, ◌∙◌}
use Rattle.std.specs.List.{list_any, AllByRecursion}
use Rattle.std.specs.Option.{option_or, option_map}
use Rattle.std.proofs.Math.Bool.{and-false}
use Rattle.dns_data.specs.Answers.{◌>>=◌}
use Rattle.dns_data.specs.Distinct.{distinct_behind}
use Rattle.dns_data.specs.Identical.{is_identical}
use Rattle.dns_data.specs.Name.{Labels, name_eq, is_prefix}
use Rattle.dns_data.specs.Rdata.{data_eq}
use Rattle.dns_data.specs.declared.rdata.Rr.{Rr}
use Rattle.dns_data.specs.declared.rr_type.RrType.TheVariants as types
use Rattle.dns_data.proofs.Names.{all_so}
use Rattle.zone_rules.specs.Apex.{apex_of, apex_of_soas, is_type, is_wildcard}
use Rattle.zone_rules.specs.Rules.{had, had_at, had_other_at, is_soa_elsewhere, is_second_soa, is_star_record, is_second_cname, is_beside_cname, is_second_dname, rule_at, first_fault_behind}
use Rattle.zone_rules.specs.ZoneOf.{within, unless_faulty, checked, zone_under, zone_of}
use Rattle.zone_rules.specs.declared.fault.RuleCause.{RuleCause}
use Rattle.zone_rules.specs.declared.fault.RuleCause.TheVariants.{NoSoa, StarOrigin, TwoSoas, SoaElsewhere, CnameAndOther, TwoCnames, TwoDnames, StarRecord}
use Rattle.zone_rules.specs.declared.fault.RuleFault.{RuleFault}
use Rattle.zone_rules.specs.declared.fault.RuleFault.TheVariants.{At}

-- a record fits behind those before it
pub record Fits (origin : Labels) (before : List Rr) (rr : Rr) : Type 0 where
  pub new : list_any (is_identical rr) before ≡ false
  pub below : is_prefix origin rr.owner ≡ true
  pub rules : rule_at origin before rr ≡ None

-- each record fits behind those before it
abbrev pub AllFit : Labels → List Rr → List Rr → Type 0
AllFit origin before [] = Unit {0}
AllFit origin before (rr ∷ rrs) = Fits origin before rr × AllFit origin (before ++ rr ∷ []) rrs

-- none of the records is an SOA record
abbrev pub NoSoas : List Rr → Type 0
NoSoas rrs = AllByRecursion (λ rr. is_type types.Soa rr ≡ false) rrs

-- ---- a record whose owner has no record before

-- no item passes a test that each item fails
pub none_of : {A : Type 0} (test : A → Bool) (items : List A) → AllByRecursion (λ item. test item ≡ false) items → list_any test items ≡ false
none_of test [] fail = refl
none_of test (item ∷ items) fail = let rest = none_of test items fail.1 in λ i. fail.0 i || rest i

both_false : (b : Bool) → cond b false false ≡ false
both_false true = refl
both_false false = refl

-- the owner has none of these records
abbrev pub IsNewOwner : Labels → List Rr → Type 0
IsNewOwner owner before = AllByRecursion (λ other. name_eq owner other.owner ≡ false) before

none_at : (owner : Labels) (test : Rr → Bool) (before : List Rr) → IsNewOwner owner before → list_any (λ other. name_eq owner other.owner && test other) before ≡ false
none_at owner test before new =
    none_of (λ other. name_eq owner other.owner && test other) before
    (all_so (λ other. name_eq owner other.owner ≡ false) (λ other. (name_eq owner other.owner && test other) ≡ false) before
    (λ other apart. ap (λ (b : Bool). b && test other) apart) new)

-- a record that is the first of its owner, lies below the origin, and is neither an SOA record nor a DNAME record nor an NS
-- record of a wildcard, fits
pub new_owner_fits : (origin : Labels) (before : List Rr) (rr : Rr) → IsNewOwner rr.owner before → is_prefix origin rr.owner ≡ true
    → is_type types.Soa rr ≡ false → is_type types.Dname rr ≡ false → is_star_record rr ≡ false → Fits origin before rr
new_owner_fits origin before rr new below no_soa no_dname no_star =
    let elsewhere : is_soa_elsewhere origin rr ≡ false = ap (λ (b : Bool). b && not (name_eq rr.owner origin)) no_soa in
    let second_soa : is_second_soa before rr ≡ false = ap (λ (b : Bool). b && had types.Soa before) no_soa in
    let no_cname : had_at types.Cname rr.owner before ≡ false = none_at rr.owner (is_type types.Cname) before new in
    let no_other : had_other_at types.Cname rr.owner before ≡ false = none_at rr.owner (λ other. not (is_type types.Cname other)) before new in
    let second_cname : is_second_cname before rr ≡ false = ap (λ (b : Bool). is_type types.Cname rr && b) no_cname ∙ and-false (is_type types.Cname rr) in
    let beside_cname : is_beside_cname before rr ≡ false =
    (λ i. cond (is_type types.Cname rr) (no_other i) (no_cname i)) ∙ both_false (is_type types.Cname rr) in
    let second_dname : is_second_dname before rr ≡ false = ap (λ (b : Bool). b && had_at types.Dname rr.owner before) no_dname in
    record {
      new = none_at rr.owner (λ other. data_eq rr.rdata other.rdata) before new;
      below = below;
      rules = λ i.
          if elsewhere i then Some SoaElsewhere
          else (if second_soa i then Some TwoSoas
          else (if no_star i then Some StarRecord
          else (if second_cname i then Some TwoCnames
          else (if beside_cname i then Some CnameAndOther
          else (if second_dname i then Some TwoDnames
          else None)))));
    }

-- ---- the zone of records that fit

distinct_stay : (origin : Labels) (before rrs : List Rr) → AllFit origin before rrs → distinct_behind is_identical before rrs ≡ rrs
distinct_stay origin before [] fit = refl
distinct_stay origin before (rr ∷ rrs) fit =
    let behind = before ++ rr ∷ [] in
    ap (λ (b : Bool). if b then distinct_behind is_identical behind rrs else rr ∷ distinct_behind is_identical behind rrs) fit.0.new
    ∙ ap (λ (rest : List Rr). rr ∷ rest) (distinct_stay origin behind rrs fit.1)

within_stay : (origin : Labels) (before rrs : List Rr) → AllFit origin before rrs → within origin rrs ≡ rrs
within_stay origin before [] fit = refl
within_stay origin before (rr ∷ rrs) fit =
    ap (λ (b : Bool). if b then rr ∷ within origin rrs else within origin rrs) fit.0.below
    ∙ ap (λ (rest : List Rr). rr ∷ rest) (within_stay origin (before ++ rr ∷ []) rrs fit.1)

no_rule_broken : (origin : Labels) (before rrs : List Rr) → AllFit origin before rrs → first_fault_behind origin before rrs ≡ None
no_rule_broken origin before [] fit = refl
no_rule_broken origin before (rr ∷ rrs) fit =
    let behind = before ++ rr ∷ [] in
    ap (λ (rule : Option RuleCause). option_or (option_map (λ cause. At rr.file rr.line cause) rule) (first_fault_behind origin behind rrs)) fit.0.rules
    ∙ no_rule_broken origin behind rrs fit.1

soas_none : (rrs : List Rr) → NoSoas rrs → filter (is_type types.Soa) rrs ≡ []
soas_none [] none = refl
soas_none (rr ∷ rrs) none =
    ap (λ (b : Bool). if b then rr ∷ filter (is_type types.Soa) rrs else filter (is_type types.Soa) rrs) none.0
    ∙ soas_none rrs none.1

-- records that fit, of which the first alone is an SOA record, are the zone of its owner
pub zone_fits : (soa : Rr) (rrs : List Rr) → is_type types.Soa soa ≡ true → NoSoas rrs → is_wildcard soa.owner ≡ false → AllFit soa.owner [] (soa ∷ rrs)
    → zone_of None (soa ∷ rrs) ≡ Ok (record { origin = soa.owner; rrs = soa ∷ rrs })
zone_fits soa rrs is none plain fit =
    let all = soa ∷ rrs in
    let soas : filter (is_type types.Soa) all ≡ soa ∷ [] =
    ap (λ (b : Bool). if b then soa ∷ filter (is_type types.Soa) rrs else filter (is_type types.Soa) rrs) is
    ∙ ap (λ (rest : List Rr). soa ∷ rest) (soas_none rrs none) in
    let there : had types.Soa all ≡ true = ap (λ (b : Bool). b || had types.Soa rrs) is in
    ap (λ (some : List Rr). apex_of None some >>= zone_under some) (distinct_stay soa.owner [] all fit)
    ∙ ap (λ (some : List Rr). apex_of_soas some >>= zone_under all) soas
    ∙ ap (λ (b : Bool). if b then Err (At soa.file soa.line StarOrigin) else checked soa.owner (within soa.owner all)) plain
    ∙ ap (checked soa.owner) (within_stay soa.owner [] all fit)
    ∙ ap (λ (fault : Option RuleFault). unless_faulty fault soa.owner all) (no_rule_broken soa.owner [] all fit)
    ∙ ap (λ (b : Bool). if b then Ok (record { origin = soa.owner; rrs = all }) else Err (At 0 0 NoSoa)) there
