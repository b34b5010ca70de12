use Rattle.std.proofs.Common.{◌⊎◌, [], ◌∷◌, take, Contains}
use Rattle.std.specs.Prelude.{◌↔◌}
use Rattle.dns_data.specs.Name.{Labels}
use Rattle.label_graph.specs.Graphs.{SomeItem}
use Rattle.label_graph.specs.LiveSet.{HavePrefixes}
use Rattle.label_graph.specs.Targets.{IsPrefixFrom}
use Rattle.own_names.proofs.held.fronts_of.Given as goal

-- the root, and the fronts of the names so far
abbrev pub invariant-loop-name : goal.invariant-loop-name
invariant-loop-name l = record {
  prefixes : HavePrefixes l.fronts.items;
  names : (name : Labels) → Contains l.fronts.items name
      ↔ (Contains ([] ∷ []) name ⊎ SomeItem (λ (one : Labels). IsPrefixFrom 0 one name) (take l.name-index l.names));
}
