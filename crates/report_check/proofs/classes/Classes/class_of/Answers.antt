use Rattle.net_model.specs.Reading.{ground_of}
use Rattle.query_classes.proofs.SameGrounds.{class_same, same_back}
use Rattle.report_check.proofs.classes.Classes.class_of.Goals as goal

pub returns-clause-class : goal.returns-clause-class
returns-clause-class c =
    class_same c.in_ok-graph.graph (ground_of c.args.self.now) c.in_ok-graph.ensures.same c.args.query.now c.in_ok-class.class c.in_ok-class.ensures.class

pub returns-clause-one : goal.returns-clause-one
returns-clause-one c = λ other is.
    let own = ground_of c.args.self.now in
    c.in_ok-class.ensures.one other (class_same own c.in_ok-graph.graph (same_back c.in_ok-graph.graph own c.in_ok-graph.ensures.same) c.args.query.now other is)
