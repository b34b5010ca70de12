use Rattle.std.proofs.Common.{◌≡◌, Some, subst}
use Rattle.std.specs.Prelude.{IfSome, IfNone}
use Rattle.dns_data.specs.Name.{Labels}
use Rattle.net_model.specs.Lookup.{ByRecords, ByNothing, synthesized}
use Rattle.zone_tree.specs.Tree.{name_of}
use Rattle.zone_tree.proofs.enclosers.source_behind.Goals as goal

pub returns-clause-some : goal.returns-clause-some
returns-clause-some c =
    let tree = c.args.tree.now in
    subst (λ (encloser : Labels). IfSome c.source_below.result (λ source. synthesized tree.zone (Some encloser) ≡ ByRecords (name_of tree source)))
    c.encloser_behind.ensures.name c.source_below.ensures.some

pub returns-clause-none : goal.returns-clause-none
returns-clause-none c =
    subst (λ (encloser : Labels). IfNone c.source_below.result (synthesized c.args.tree.now.zone (Some encloser) ≡ ByNothing))
    c.encloser_behind.ensures.name c.source_below.ensures.none
