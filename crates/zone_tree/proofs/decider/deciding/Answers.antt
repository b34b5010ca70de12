use Rattle.std.proofs.Common.{[], sym, refl, ap, ◌∙◌, append-nil}
use Rattle.net_model.specs.Lookup.{deciding}
use Rattle.zone_tree.proofs.decider.deciding.Goals as goal

pub returns-clause-decides : goal.returns-clause-decides
returns-clause-decides c =
    ap (deciding c.args.tree.now.zone) (sym (append-nil c.args.name.now)) ∙ c.decider_along.ensures.decides [] refl
