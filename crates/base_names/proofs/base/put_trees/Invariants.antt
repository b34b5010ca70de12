use Rattle.std.proofs.Common.{◌⊎◌, map, take, Contains}
use Rattle.std.specs.Prelude.{◌↔◌}
use Rattle.dns_data.specs.Name.{Labels}
use Rattle.net_model.specs.Reading.{Redirection}
use Rattle.zone_tree.specs.Tree.{ZoneTree}
use Rattle.base_names.specs.Base.{IsInZone, zone_redirections}
use Rattle.label_graph.specs.Graphs.{SomeItem}
use Rattle.label_graph.specs.LiveSet.{HavePrefixes}
use Rattle.label_graph.specs.Pairs.{redirection}
use Rattle.base_names.proofs.base.put_trees.Given as goal

-- the trees passed
abbrev pub invariant-loop-tree : goal.invariant-loop-tree
invariant-loop-tree l = record {
  prefixes : HavePrefixes l.names.items;
  names : (name : Labels) → Contains l.names.items name ↔ (Contains l.initial.names.items name ⊎ SomeItem (λ (tree : ZoneTree). IsInZone name tree.zone) (take l.tree-index l.trees));
  pairs : (pair : Redirection) → Contains (map redirection l.dnames.items) pair
      ↔ (Contains (map redirection l.initial.dnames.items) pair ⊎ SomeItem (λ (tree : ZoneTree). Contains (zone_redirections tree.zone) pair) (take l.tree-index l.trees));
}
