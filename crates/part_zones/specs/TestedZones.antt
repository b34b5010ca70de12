-- The rules of a zone, tested at a name in what is left of the zone.
use Rattle.std.specs.Prelude.{List, Contains}
use Rattle.dns_data.specs.Name.{Labels}
use Rattle.net_model.specs.declared.config.Zone.{Zone}
use Rattle.part_laws.specs.Part.{restricted_zone}
use Rattle.zone_rules.specs.KeptRules.{KeepsRules}

-- what is left of the zone where some names are held, among them this one, keeps the rules
pub record IsTestedIn (zone : Zone) (name : Labels) : Type 0 where
  pub names : List Labels
  pub held : Contains names name
  pub keeps : KeepsRules (restricted_zone names zone)
