use Rattle.std.proofs.Common.{Option, Result, Err, ap, subst}
use Rattle.std.specs.Prelude.{MatchOption}
use Rattle.graph_form.specs.Graph.{PlainGraph}
use Rattle.interp_graph.specs.declared.fault.GraphFault.{GraphFault}
use Rattle.query_verdicts.specs.Queries.{IsLeastGraph, ServerPasses}
use Rattle.groot_run.proofs.ShownClasses.{shown_one, ends_there}
use Rattle.groot_run.proofs.site.show_by_graph.Goals as goal

pub returns-in_ok-show-in-Ok-Some-clause-ok : goal.returns-in_ok-show-in-Ok-Some-clause-ok
returns-in_ok-show-in-Ok-Some-clause-ok g c =
    let queries = c.args.graphs.now in
    let seen = c.in_ok-seen-in-Ok-Some.ensures in
    let is =
    subst (λ (found : Option PlainGraph). MatchOption found (ServerPasses queries) (IsLeastGraph queries.config queries.rewrites c.args.query.now)) c.in-Ok-Some.field-0-is
    c.in-Ok-Some.ensures.graph in
    shown_one queries c.args.class.now c.args.query.now c.in-Ok-Some.graph c.in_ok-seen-in-Ok-Some.seen _ _ is c.in-Ok-Some.ensures.few
    seen.class seen.query seen.ends c.in_ok-show-in-Ok-Some.ensures

pub returns-in-Err-StatesPassed-clause-err : goal.returns-in-Err-StatesPassed-clause-err
returns-in-Err-StatesPassed-clause-err g c =
    ends_there c.args.graphs.now c.args.class.now c.args.query.now c.too_many_states.result
    (c.in-Err-StatesPassed.ensures.passed (ap {B = Result (Option PlainGraph) GraphFault} (λ (fault : GraphFault). Err fault) c.in-Err-StatesPassed.field-0-is)) c.too_many_states.ensures
