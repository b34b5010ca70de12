use Rattle.zone_rules.proofs.KeptRules.{zone-keeps-rules}
use Rattle.zone_rules.proofs.laws.zones_keep_rules.Goals as goal

pub returns : goal.returns
returns c = zone-keeps-rules
