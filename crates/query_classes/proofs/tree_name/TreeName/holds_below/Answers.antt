use Rattle.std.proofs.Common.{subst}
use Rattle.query_classes.specs.TreeNames.{HoldsBelow}
use Rattle.query_classes.proofs.tree_name.TreeName.holds_below.Goals as goal

pub returns : goal.returns
returns g c = λ said. subst (HoldsBelow g.G.OnGround.holds) c.self.view_is (c.self.invariant.below said)
