use Rattle.std.proofs.Common.{◌-◌, ◌≤◌, map, length, All}
use Rattle.label_graph.specs.LiveSet.{IsLiveSet}
use Rattle.query_classes.specs.Children.{IsBelow}
use Rattle.query_classes.specs.Rows.{tree_names}
use Rattle.query_classes.proofs.TreeWalk.{AreWalked}
use Rattle.query_classes.proofs.tree.class_tree.Given as goal

-- the rows are those of the names passed, and the others wait with their live sets
abbrev pub invariant-loop-next : goal.invariant-loop-next
invariant-loop-next l = record {
  walked : AreWalked l.graph l.from (tree_names l.rows.items) (map (λ found. found.name) l.waiting.items);
  live : All (λ found. IsLiveSet l.graph found.name found.live) l.waiting.items;
  below : All (λ row. IsBelow l.graph row.name row.below) l.rows.items;
  few : length l.rows.items ≤ l.most;
}

abbrev pub decreases-loop-next : goal.decreases-loop-next
decreases-loop-next l = l.most - length l.rows.items
