use Rattle.net_model.specs.Reading.{ground_of}
use Rattle.report_check.proofs.Represented.{stands_both}
use Rattle.report_check.proofs.classes.Classes.represents.Goals as goal

pub returns-clause-answer : goal.returns-clause-answer
returns-clause-answer c =
    let told = stands_both c.in_ok-graph.graph (ground_of c.args.self.now) c.in_ok-graph.ensures.same c.args.query.now in
    ((λ e. told.0 (c.in_ok-answer.ensures.0 e)), (λ stands. c.in_ok-answer.ensures.1 (told.1 stands)))
