use Rattle.std.proofs.Common.{◌⊎◌, Bor, map, take, Contains}
use Rattle.std.specs.Prelude.{◌↔◌}
use Rattle.dns_data.specs.Name.{Labels}
use Rattle.net_model.specs.declared.config.Config.{Config}
use Rattle.net_model.specs.Reading.{Redirection, redirections_of}
use Rattle.base_names.specs.Base.{IsInConfig}
use Rattle.label_graph.specs.Graphs.{SomeItem}
use Rattle.label_graph.specs.LiveSet.{HavePrefixes}
use Rattle.label_graph.specs.Pairs.{redirection}
use Rattle.base_names.proofs.base.put_all.Given as goal

-- the configurations passed
abbrev pub invariant-loop-hosts : goal.invariant-loop-hosts
invariant-loop-hosts l = record {
  prefixes : HavePrefixes l.names.items;
  names : (name : Labels) → Contains l.names.items name ↔ (Contains l.initial.names.items name ⊎ SomeItem (λ (hosts : Bor Config). IsInConfig name hosts.now) (take l.hosts-index l.all));
  pairs : (pair : Redirection) → Contains (map redirection l.dnames.items) pair
      ↔ (Contains (map redirection l.initial.dnames.items) pair ⊎ SomeItem (λ (hosts : Bor Config). Contains (redirections_of hosts.now) pair) (take l.hosts-index l.all));
}
