use Rattle.std.proofs.Common.{◌≡◌, ◌+◌, List, map, length, All}
use Rattle.dns_data.specs.Name.{Labels}
use Rattle.label_graph.specs.LiveSet.{IsLiveSet}
use Rattle.query_classes.proofs.TreeWalk.{AreWalked}
use Rattle.query_classes.proofs.tree.count_names.Given as goal

-- as many names are passed as were counted, and the others wait with their live sets
abbrev pub invariant-loop-next : goal.invariant-loop-next
invariant-loop-next l = record {
  walked : (passed : List Labels) × (length passed + l.left ≡ l.most) × AreWalked l.graph l.from passed (map (λ found. found.name) l.waiting.items);
  live : All (λ found. IsLiveSet l.graph found.name found.live) l.waiting.items;
}

abbrev pub decreases-loop-next : goal.decreases-loop-next
decreases-loop-next l = l.left
