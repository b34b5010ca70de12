use Rattle.std.proofs.Common.{subst}
use Rattle.net_model.specs.declared.config.Config.{Config}
use Rattle.net_model.specs.Configured.{AreConsistent}
use Rattle.label_graph.proofs.Passing.{told_iff}
use Rattle.base_names.proofs.ZoneNames.{trees_names, trees_pairs, trees_within}
use Rattle.base_names.proofs.base.put_hosts.Goals as goal

pub put_trees-requires-clause-within : goal.put_trees-requires-clause-within
put_trees-requires-clause-within c =
    trees_within c.args.hosts.now c.trees.result.now c.trees.ensures
    (subst (λ (config : Config). AreConsistent config.servers) c.config-config.ensures c.servers.ensures.consistent)

pub returns-clause-names : goal.returns-clause-names
returns-clause-names c name =
    told_iff _ _ _ _ (c.in_ok-put_trees.ensures.names name) (trees_names c.args.hosts.now c.trees.result.now c.trees.ensures name)

pub returns-clause-pairs : goal.returns-clause-pairs
returns-clause-pairs c pair =
    told_iff _ _ _ _ (c.in_ok-put_trees.ensures.pairs pair) (trees_pairs c.args.hosts.now c.trees.result.now c.trees.ensures pair)
