use Rattle.std.proofs.Common.{◌⊎◌, Bor, take, Contains}
use Rattle.std.specs.Prelude.{◌↔◌}
use Rattle.dns_data.specs.Name.{Labels}
use Rattle.label_graph.specs.Graphs.{SomeItem}
use Rattle.label_graph.specs.LiveSet.{HavePrefixes}
use Rattle.label_graph.specs.Targets.{IsPrefixFrom}
use Rattle.label_graph.proofs.base.put_names.Given as goal

-- the names passed
abbrev pub invariant-loop-name : goal.invariant-loop-name
invariant-loop-name l = record {
  prefixes : HavePrefixes l.names.items;
  names : (name : Labels) → Contains l.names.items name
      ↔ (Contains l.initial.names.items name ⊎ SomeItem (λ (one : Bor Labels). IsPrefixFrom 0 one.now name) (take l.name-index l.more));
}
