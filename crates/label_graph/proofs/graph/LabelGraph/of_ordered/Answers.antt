use Rattle.std.proofs.Common.{List, Contains, sym, subst}
use Rattle.dns_data.specs.Name.{Labels, AreInOrder}
use Rattle.dns_data.proofs.Membership.{map_has}
use Rattle.label_graph.specs.declared.pair.Pair.{Pair}
use Rattle.label_graph.specs.LiveSet.{IsClosed}
use Rattle.label_graph.specs.Pairs.{redirection, ground_with, AreSame}
use Rattle.label_graph.specs.Targets.{AreReads, IsRootPlace}
use Rattle.label_graph.proofs.OrderedNames.{closed_table, root_first}
use Rattle.label_graph.proofs.graph.LabelGraph.of_ordered.Goals as goal

pub of-requires : goal.of-requires
of-requires c = closed_table c.args.names.items c.requires.order c.requires.closed.names

pub reads_of-requires-clause-root : goal.reads_of-requires-clause-root
reads_of-requires-clause-root c =
    subst (λ (names : List Labels). IsRootPlace names 0) (sym c.in_ok-base.ensures) (root_first c.args.names.items c.requires.order c.requires.closed.names)

pub reads_of-requires-clause-owners : goal.reads_of-requires-clause-owners
reads_of-requires-clause-owners c pair among =
    subst (λ (names : List Labels). Contains names pair.from) (sym c.in_ok-base.ensures)
    (c.requires.closed.redirected (redirection pair) (map_has redirection c.args.dnames.now pair among))

pub invariant_of-result : goal.invariant_of-result
invariant_of-result c =
    record {
      order = subst AreInOrder (sym c.in_ok-base.ensures) c.requires.order;
      closed =
          subst (λ (names : List Labels). IsClosed (ground_with names c.in_ok-dnames.dnames)) (sym c.in_ok-base.ensures)
          (subst (λ (pairs : List Pair). IsClosed (ground_with c.args.names.items pairs)) (sym c.in_ok-dnames.ensures) c.requires.closed);
      are_reads = subst (λ (pairs : List Pair). AreReads c.in_ok-base.base pairs c.in_ok-reads.reads) (sym c.in_ok-dnames.ensures) c.in_ok-reads.ensures;
    }

pub returns-clause-same : goal.returns-clause-same
returns-clause-same c =
    let given = ground_with c.args.names.items c.args.dnames.now in
    subst (λ (names : List Labels). AreSame (ground_with names c.in_ok-dnames.dnames) given) (sym c.in_ok-base.ensures)
    (subst (λ (pairs : List Pair). AreSame (ground_with c.args.names.items pairs) given) (sym c.in_ok-dnames.ensures)
    (record { names = λ name. (λ has. has, λ has. has); redirections = λ one. (λ has. has, λ has. has) }))
