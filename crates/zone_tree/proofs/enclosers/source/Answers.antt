use Rattle.std.proofs.Common.{◌≡◌, Option, IfSome, IfNone, sym, subst}
use Rattle.dns_data.specs.Name.{Labels}
use Rattle.net_model.specs.Lookup.{ByRecords, ByNothing, synthesized}
use Rattle.zone_tree.specs.Tree.{name_of}
use Rattle.zone_tree.proofs.LastUpTo.{encloser_is}
use Rattle.zone_tree.proofs.enclosers.source.Goals as goal

pub returns-clause-some : goal.returns-clause-some
returns-clause-some c =
    let tree = c.args.tree.now in
    subst (λ (encloser : Option Labels). IfSome c.source_behind.result (λ source. synthesized tree.zone encloser ≡ ByRecords (name_of tree source)))
    (sym (encloser_is tree c.args.name.now c.preceding.result c.requires c.preceding.ensures)) c.source_behind.ensures.some

pub returns-clause-none : goal.returns-clause-none
returns-clause-none c =
    let tree = c.args.tree.now in
    subst (λ (encloser : Option Labels). IfNone c.source_behind.result (synthesized tree.zone encloser ≡ ByNothing))
    (sym (encloser_is tree c.args.name.now c.preceding.result c.requires c.preceding.ensures)) c.source_behind.ensures.none
