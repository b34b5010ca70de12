use Rattle.std.proofs.Common.{sym, refl, ap, ◌∙◌}
use Rattle.net_model.specs.Zone.{exists_in}
use Rattle.zone_lookup.proofs.Glue.{missing_has_none}
use Rattle.zone_lookup.proofs.follow.has_glue_below.Goals as goal

pub returns-in-None : goal.returns-in-None
returns-in-None c =
    sym (missing_has_none c.args.tree.now.zone c.args.ns.now c.requires.inside
    (ap (exists_in c.args.tree.now.zone) (sym c.labels.ensures.same) ∙ c.in-None.ensures.none.0 refl))
