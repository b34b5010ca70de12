use Rattle.std.proofs.Common.{refl, ◌∙◌}
use Rattle.zone_lookup.proofs.ZonesTell.{no_addresses}
use Rattle.zone_lookup.proofs.sides.addresses_at.Goals as goal

pub returns-in-None : goal.returns-in-None
returns-in-None c = c.new.ensures ∙ no_addresses c.args.tree.now.zone c.args.name.now c.requires (c.in-None.ensures.none.0 refl)
