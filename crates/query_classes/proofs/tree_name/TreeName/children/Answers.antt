use Rattle.std.proofs.Common.{sym, subst}
use Rattle.std.proofs.lemmas.Result.{IfOk-weaker}
use Rattle.dns_data.specs.Name.{Labels}
use Rattle.query_classes.specs.Children.{AreChildren}
use Rattle.query_classes.specs.TreeNames.{HoldsBelow}
use Rattle.query_classes.proofs.SameGrounds.{children_same}
use Rattle.query_classes.proofs.BelowChildren.{children_hold}
use Rattle.query_classes.proofs.tree_name.TreeName.children.Goals as goal

pub children-requires : goal.children-requires
children-requires g c = c.self.invariant.live c.args.graph.now c.requires.base

pub items_of-requires : goal.items_of-requires
items_of-requires g c =
    children_hold g.G.OnGround.ground c.args.graph.now c.requires.base g.G.OnGround.holds c.args.all_hold c.self.inside.found.name
    (λ said. subst (HoldsBelow g.G.OnGround.holds) (sym c.self.view_is) (c.requires.hold said)) c.in_ok-found.found c.in_ok-found.ensures.names c.in_ok-found.ensures.live

pub returns : goal.returns
returns g c =
    let ground = g.G.OnGround.ground in
    IfOk-weaker c.items_of.result _ (AreChildren ground c.args.self.now)
    (λ items are. subst (λ (name : Labels). AreChildren ground name items) c.self.view_is
    (subst (AreChildren ground c.self.inside.found.name) (sym are)
    (children_same c.args.graph.now ground c.requires.base.same c.self.inside.found.name _ c.in_ok-found.ensures.names)))
    c.items_of.ensures
