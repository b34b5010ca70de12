-- The origin of a zone, with the file and the line of the SOA record that states it: the one that is given, with 0 and
-- 0, or else the owner of the only SOA record (RFC 1035 section 5.2).
use Rattle.std.specs.Prelude.{Bool, false, List, [], ◌∷◌, codes, Option, Some, None, Result, Ok, Err}
use Rattle.std.specs.List.{filter}
use Rattle.dns_data.specs.Label.{label_eq}
use Rattle.dns_data.specs.Name.{Labels}
use Rattle.dns_data.specs.Rdata.{has_type}
use Rattle.dns_data.specs.declared.rdata.Rr.{Rr}
use Rattle.dns_data.specs.declared.rr_type.RrType.{RrType}
use Rattle.dns_data.specs.declared.rr_type.RrType.TheVariants as types
use Rattle.zone_rules.specs.declared.apex.Apex.{Apex}
use Rattle.zone_rules.specs.declared.fault.RuleFault.{RuleFault}
use Rattle.zone_rules.specs.declared.fault.RuleFault.TheVariants.{At}
use Rattle.zone_rules.specs.declared.fault.RuleCause.TheVariants.{NoSoa, TwoSoas}

-- the record is of the type
abbrev pub is_type : RrType → Rr → Bool
is_type rtype rr = has_type rtype rr.rdata

-- the origin that the SOA records state, of which there is one
abbrev pub apex_of_soas : List Rr → Result Apex RuleFault
apex_of_soas [] = Err (At 0 0 NoSoa)
apex_of_soas (soa ∷ []) = Ok (record { name = soa.owner; file = soa.file; line = soa.line })
apex_of_soas (soa ∷ second ∷ soas) = Err (At second.file second.line TwoSoas)

-- the origin that is given, or else that of the records
abbrev pub apex_of : Option Labels → List Rr → Result Apex RuleFault
apex_of (Some origin) rrs = Ok (record { name = origin; file = 0; line = 0 })
apex_of None rrs = apex_of_soas (filter (is_type types.Soa) rrs)

-- the leftmost label is the asterisk label (RFC 4592 section 2.1.1); the top label stands first
abbrev pub is_wildcard : Labels → Bool
is_wildcard [] = false
is_wildcard (label ∷ []) = label_eq label (codes "*")
is_wildcard (label ∷ next ∷ labels) = is_wildcard (next ∷ labels)
