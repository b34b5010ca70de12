use Rattle.std.proofs.Common.{Some, sym, ap, ◌∙◌}
use Rattle.dns_data.specs.Name.{Labels}
use Rattle.zone_tree.proofs.LastUpTo.{encloser_is}
use Rattle.zone_tree.proofs.enclosers.encloser.Goals as goal

pub returns-clause-name : goal.returns-clause-name
returns-clause-name c =
    encloser_is c.args.tree.now c.args.name.now c.preceding.result c.requires c.preceding.ensures
    ∙ ap (λ (x : Labels). Some x) (sym c.encloser_behind.ensures.name)
