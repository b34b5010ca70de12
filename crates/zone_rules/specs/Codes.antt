-- The codes of the rules of zones.
use Rattle.std.specs.Prelude.{ℕ, List, codes}
use Rattle.zone_rules.specs.declared.fault.RuleCause.{RuleCause}
use Rattle.zone_rules.specs.declared.fault.RuleCause.TheVariants.{NoSoa, TwoSoas, SoaElsewhere, CnameAndOther, TwoCnames, TwoDnames, StarRecord, StarOrigin}

-- the code of a rule that a record breaks, the word that is printed for it
abbrev pub rule_code : RuleCause → List ℕ
rule_code NoSoa = codes "no-soa"
rule_code TwoSoas = codes "two-soas"
rule_code SoaElsewhere = codes "soa-elsewhere"
rule_code CnameAndOther = codes "cname-and-other"
rule_code TwoCnames = codes "two-cnames"
rule_code TwoDnames = codes "two-dnames"
rule_code StarRecord = codes "star-record"
rule_code StarOrigin = codes "star-origin"
