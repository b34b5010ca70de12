use Rattle.query_verdicts.proofs.ClassesJudged.{some_server}
use Rattle.same_answers.proofs.graph_found.found_in.Goals as goal

pub returns-in-Err : goal.returns-in-Err
returns-in-Err c =
    let of = c.args.graphs.now in
    (c.in-Ok-Some.ensures.few, some_server of.config of.rewrites of.states c.in-Err.field-0.now c.in-Err.ensures.passed)
