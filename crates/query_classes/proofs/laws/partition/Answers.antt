use Rattle.label_graph.proofs.LiveNames.{prefix_is_named}
use Rattle.query_classes.proofs.Partition.{in_one_class, one_class_same}
use Rattle.query_classes.proofs.SameGrounds.{closed_same}
use Rattle.query_classes.proofs.laws.partition.Goals as goal

pub returns-clause-one : goal.returns-clause-one
returns-clause-one c ground same query is =
    one_class_same c.args.graph.now ground same query
    (in_one_class c.args.graph.now c.graph_is_closed.ensures c.names_have_live_sets.ensures query is)

pub returns-clause-prefixes : goal.returns-clause-prefixes
returns-clause-prefixes c ground same = prefix_is_named ground (closed_same c.args.graph.now ground same c.graph_is_closed.ensures)
