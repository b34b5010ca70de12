use Rattle.std.proofs.Common.{Option, subst}
use Rattle.std.specs.Prelude.{MatchOption}
use Rattle.label_graph.specs.Pairs.{AreSame}
use Rattle.net_model.specs.Reading.{Ground, ground_of}
use Rattle.query_classes.specs.TreeNames.{AreBaseNamesOf}
use Rattle.job_scope.specs.Scoped.{widened}
use Rattle.job_scope.proofs.ScopeSubjects.{with_own, without_own}
use Rattle.job_scope.proofs.scope_graphs.ScopeGraphs.into_judge.Goals as goal

pub new-requires : goal.new-requires
new-requires g c =
    let N = g.N.Naming in
    let of = c.args.self in
    let scope = c.args.scope.now in
    with_own of c.self.inside.queries c.self.view_is c.self.inside.base c.self.invariant N.subject N.states scope c.in_ok-first.first c.requires.subject c.requires.states
    c.labels.ensures.name c.in_ok-first.ensures c.in-Some.names
    (subst (λ (names : Option Ground). MatchOption names (AreSame (widened of.config scope) (ground_of of.config)) (AreBaseNamesOf (widened of.config scope))) c.in-Some.is
    c.in_ok-names.ensures)

pub new-requires-in-None : goal.new-requires-in-None
new-requires-in-None g c =
    let N = g.N.Naming in
    let of = c.args.self in
    let scope = c.args.scope.now in
    without_own of c.self.inside.queries c.self.view_is c.self.inside.base c.self.invariant N.subject N.states scope c.in_ok-first.first c.requires.subject c.requires.states
    c.labels.ensures.name c.in_ok-first.ensures
    (subst (λ (names : Option Ground). MatchOption names (AreSame (widened of.config scope) (ground_of of.config)) (AreBaseNamesOf (widened of.config scope))) c.in-None.is
    c.in_ok-names.ensures)
