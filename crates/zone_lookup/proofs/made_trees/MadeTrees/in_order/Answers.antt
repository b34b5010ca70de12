use Rattle.std.proofs.Common.{List, map, Contains, subst}
use Rattle.std.specs.Prelude.{◌↔◌}
use Rattle.net_model.specs.declared.config.Zone.{Zone}
use Rattle.zone_tree.specs.Tree.{ZoneTree}
use Rattle.zone_lookup.proofs.PutZones.{zones_sorted}
use Rattle.zone_lookup.proofs.made_trees.MadeTrees.in_order.Goals as goal

pub returns : goal.returns
returns c = λ zone.
    subst (λ (zones : List Zone). Contains (map (λ (tree : ZoneTree). tree.zone) c.sort_by.new.self.items) zone ↔ Contains zones zone) c.self.view_is
    (zones_sorted c.self.inside.trees.items c.sort_by.new.self.items c.sort_by.ensures.permutation zone)
