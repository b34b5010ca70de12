use Rattle.std.proofs.Common.{◌⊎◌, List, map, Contains, sym, subst}
use Rattle.std.specs.Prelude.{◌↔◌}
use Rattle.std.proofs.lemmas.List.Elements.{All-contains, Contains-get_or}
use Rattle.net_model.specs.Configured.{KeepsWithin}
use Rattle.net_model.specs.Reading.{Redirection}
use Rattle.label_graph.specs.Pairs.{redirection}
use Rattle.zone_tree.specs.Tree.{ZoneTree}
use Rattle.base_names.specs.Base.{IsInZone, zone_redirections}
use Rattle.label_graph.proofs.Passing.{more_iff, whole_iff, append_iff}
use Rattle.base_names.proofs.base.put_trees.Goals as goal

pub put_tree-requires-clause-within : goal.put_tree-requires-clause-within
put_tree-requires-clause-within c =
    All-contains (λ (tree : ZoneTree). KeepsWithin tree.zone) c.args.trees.now c.tree-item.result c.requires.within
    (subst (Contains c.args.trees.now) (sym c.tree-item.is) (Contains-get_or c.args.trees.now c.loop-tree.tree-index c.tree-item.result c.loop-tree-test.true))

pub loop-tree-preserved : goal.loop-tree-preserved
loop-tree-preserved c =
    record {
      prefixes = c.in_ok-put_tree.ensures.prefixes;
      names = λ name. more_iff (λ (tree : ZoneTree). IsInZone name tree.zone) c.args.trees.now c.loop-tree.tree-index c.tree-item.result
          c.loop-tree-test.true c.tree-item.is _ _ _ (c.loop-tree.invariant.names name) (c.in_ok-put_tree.ensures.names name);
      pairs = λ pair. more_iff (λ (tree : ZoneTree). Contains (zone_redirections tree.zone) pair) c.args.trees.now c.loop-tree.tree-index c.tree-item.result
          c.loop-tree-test.true c.tree-item.is _ _ _ (c.loop-tree.invariant.pairs pair) (subst (λ (pairs : List Redirection). Contains pairs pair ↔ (Contains (map redirection c.loop-tree.dnames.items) pair ⊎ Contains (zone_redirections c.tree-item.result.zone) pair))
          (sym c.in_ok-put_tree.ensures.pairs) (append_iff (map redirection c.loop-tree.dnames.items) (zone_redirections c.tree-item.result.zone) pair));
    }

pub returns-clause-names : goal.returns-clause-names
returns-clause-names c name =
    whole_iff (λ (tree : ZoneTree). IsInZone name tree.zone) c.args.trees.now c.loop-tree.tree-index c.loop-tree-test.false
    _ _ (c.loop-tree.invariant.names name)

pub returns-clause-pairs : goal.returns-clause-pairs
returns-clause-pairs c pair =
    whole_iff (λ (tree : ZoneTree). Contains (zone_redirections tree.zone) pair) c.args.trees.now c.loop-tree.tree-index c.loop-tree-test.false
    _ _ (c.loop-tree.invariant.pairs pair)
