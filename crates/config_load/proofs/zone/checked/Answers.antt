use Rattle.std.specs.Option.{option_map}
use Rattle.zone_rules.proofs.ZonesWithin.{keeps_within}
use Rattle.config_load.proofs.zone.checked.Goals as goal

pub returns-in-Ok-clause-within : goal.returns-in-Ok-clause-within
returns-in-Ok-clause-within c = keeps_within (option_map (λ name. name.now) c.args.origin) c.args.rrs c.in-Ok.zone c.in-Ok.ensures
