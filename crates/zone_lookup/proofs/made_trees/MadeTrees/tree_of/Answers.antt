use Rattle.std.proofs.Common.{◌∙◌, [], ◌∷◌, ◌++◌, Contains, sym, ap, subst}
use Rattle.net_model.specs.declared.config.Zone.{Zone}
use Rattle.zone_tree.specs.Tree.{ZoneTree}
use Rattle.zone_lookup.specs.Firsts.{ArePut}
use Rattle.zone_lookup.proofs.PutZones.{one_put, put_again}
use Rattle.zone_lookup.proofs.made_trees.MadeTrees.tree_of.Goals as goal

pub returns-in-Some-clause-tree : goal.returns-in-Some-clause-tree
returns-in-Some-clause-tree c = ap (λ (tree : ZoneTree). tree.zone) c.in_ok-again.ensures ∙ c.in-Some.ensures.tree

pub returns-in-Some-clause-made : goal.returns-in-Some-clause-made
returns-in-Some-clause-made c =
    put_again c.args.self.now c.args.zone.now (subst (Contains c.args.self.now) c.in-Some.ensures.tree c.in-Some.ensures.made)

pub returns-clause-made : goal.returns-clause-made
returns-clause-made c =
    let old = c.args.self.now in
    subst (ArePut (c.args.zone.now ∷ []) old)
    (sym (c.in_ok-put.ensures ∙ ap (λ (zone : Zone). old ++ zone ∷ []) (ap (λ (tree : ZoneTree). tree.zone) c.in_ok-again-2.ensures ∙ c.in_ok-tree.ensures)))
    (one_put old c.args.zone.now)
