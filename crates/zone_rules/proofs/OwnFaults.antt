-- No records are refused because memory ran out: that answer is a call's alone.
use Rattle.std.proofs.Common.{List, [], ◌∷◌, ◌++◌, Option, Some, None}
use Rattle.std.specs.List.{filter}
use Rattle.std.specs.Option.{option_or, option_map}
use Rattle.std.specs.Result.{IfErr}
use Rattle.dns_data.proofs.Answers.{if_err_then, if_err_either}
use Rattle.dns_data.specs.Distinct.{distinct}
use Rattle.dns_data.specs.Identical.{is_identical}
use Rattle.dns_data.specs.Name.{Labels}
use Rattle.dns_data.specs.declared.rdata.Rr.{Rr}
use Rattle.dns_data.specs.declared.rr_type.RrType.TheVariants as types
use Rattle.zone_rules.specs.Apex.{apex_of, apex_of_soas, is_type, is_wildcard}
use Rattle.zone_rules.specs.Rules.{had, rule_at, first_fault, first_fault_behind}
use Rattle.zone_rules.specs.ZoneOf.{within, unless_faulty, zone_under, zone_of}
use Rattle.zone_rules.specs.declared.apex.Apex.{Apex}
use Rattle.zone_rules.specs.declared.fault.RuleCause.{RuleCause}
use Rattle.zone_rules.specs.declared.fault.RuleFault.{RuleFault}
use Rattle.zone_rules.specs.declared.fault.RuleFault.TheVariants.{At, NoMemory}

-- the fault is a broken rule
abbrev pub IsOwn : RuleFault → Type 0
IsOwn NoMemory = ⊥
IsOwn (At file line cause) = Unit {0}

soas_own : (soas : List Rr) → IfErr (apex_of_soas soas) IsOwn
soas_own [] = tt
soas_own (soa ∷ []) = tt
soas_own (soa ∷ second ∷ soas) = tt

apex_own : (origin : Option Labels) (rrs : List Rr) → IfErr (apex_of origin rrs) IsOwn
apex_own (Some origin) rrs = tt
apex_own None rrs = soas_own (filter (is_type types.Soa) rrs)

-- the fault is a broken rule, if there is one
abbrev IfOwn : Option RuleFault → Type 0
IfOwn None = Unit {0}
IfOwn (Some fault) = IsOwn fault

-- the first of two faults is a broken rule where both are
rule_or : (rr : Rr) (rule : Option RuleCause) (later : Option RuleFault) → IfOwn later → IfOwn (option_or (option_map (λ cause. At rr.file rr.line cause) rule) later)
rule_or rr None later own = own
rule_or rr (Some cause) later own = tt

fault_own : (origin : Labels) (before rrs : List Rr) → IfOwn (first_fault_behind origin before rrs)
fault_own origin before [] = tt
fault_own origin before (rr ∷ rrs) =
    rule_or rr (rule_at origin before rr) (first_fault_behind origin (before ++ rr ∷ []) rrs) (fault_own origin (before ++ rr ∷ []) rrs)

unless_own : (fault : Option RuleFault) (origin : Labels) (rrs : List Rr) → IfOwn fault → IfErr (unless_faulty fault origin rrs) IsOwn
unless_own (Some fault) origin rrs own = own
unless_own None origin rrs own = if_err_either IsOwn (had types.Soa rrs) _ _ tt tt

under_own : (rrs : List Rr) (apex : Apex) → IfErr (zone_under rrs apex) IsOwn
under_own rrs apex =
    if_err_either IsOwn (is_wildcard apex.name) _ _ tt
    (unless_own (first_fault apex.name (within apex.name rrs)) apex.name (within apex.name rrs) (fault_own apex.name [] (within apex.name rrs)))

-- the fault of records is a broken rule
pub zone_own : (origin : Option Labels) (rrs : List Rr) → IfErr (zone_of origin rrs) IsOwn
zone_own origin rrs =
    if_err_then IsOwn (apex_of origin (distinct is_identical rrs)) (zone_under (distinct is_identical rrs)) (apex_own origin (distinct is_identical rrs)) (under_own (distinct is_identical rrs))
