use Rattle.std.proofs.Common.{Option, subst}
use Rattle.std.specs.Prelude.{MatchOption}
use Rattle.graph_form.specs.Graph.{PlainGraph}
use Rattle.query_verdicts.specs.Queries.{IsLeastGraph}
use Rattle.query_verdicts.specs.Verdict.{SomeServerPasses}
use Rattle.query_verdicts.proofs.report.least_graph.Goals as goal

pub unreachable-requires : goal.unreachable-requires
unreachable-requires g c =
    let subject = g.S.OnSubject.subject in
    c.requires.none_passes.no_server
    (subst (λ (found : Option PlainGraph). MatchOption found (SomeServerPasses subject.config subject.rewrites g.S.OnSubject.states) (IsLeastGraph subject.config subject.rewrites c.args.query.now))
    c.in-Ok-None.field-0-is c.in-Ok-None.ensures.graph)
