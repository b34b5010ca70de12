use Rattle.std.proofs.Common.{◌≡◌, ◌++◌, map, All}
use Rattle.query_classes.specs.TreeNames.{IsTreeName}
use Rattle.query_classes.proofs.tree_name.items_of.Given as goal

-- the items so far, and those of what is left
abbrev pub invariant-loop-one : goal.invariant-loop-one
invariant-loop-one g l = record {
  items : l.items.items ++ map (λ one. one.name) l.one-iterator ≡ map (λ one. one.name) l.fn.found;
  are : All (IsTreeName g.G.OnGround.ground g.G.OnGround.holds l.all_hold) l.one-iterator;
}
