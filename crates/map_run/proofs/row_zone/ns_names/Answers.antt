use Rattle.std.proofs.Common.{refl}
use Rattle.zone_lookup.proofs.ZonesTell.{none_listed}
use Rattle.map_run.proofs.row_zone.ns_names.Goals as goal

pub returns-in-None : goal.returns-in-None
returns-in-None c = none_listed c.args.tree.now.zone c.args.name.now c.requires (c.in-None.ensures.none.0 refl)
