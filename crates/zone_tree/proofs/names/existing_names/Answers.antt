use Rattle.std.proofs.Common.{sym, ◌∙◌, subst}
use Rattle.zone_tree.specs.Names.{AreExisting}
use Rattle.zone_tree.proofs.Existing.{are_existing}
use Rattle.zone_tree.proofs.names.existing_names.Goals as goal

pub returns : goal.returns
returns c =
    subst (AreExisting c.args.zone.now) (sym (c.shrink_to_fit.ensures.items ∙ c.in_ok-names.ensures)) (are_existing c.args.zone.now c.args.runs.now c.requires)
