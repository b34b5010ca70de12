use Rattle.std.proofs.Common.{sym, refl}
use Rattle.zone_lookup.proofs.Glue.{missing_has_none}
use Rattle.zone_lookup.proofs.follow.has_address.Goals as goal

pub returns-in-None : goal.returns-in-None
returns-in-None c = sym (missing_has_none c.args.tree.now.zone c.args.name.now c.requires (c.in-None.ensures.none.0 refl))
