use Rattle.std.proofs.Common.{Option, subst}
use Rattle.std.specs.Prelude.{MatchOption}
use Rattle.label_graph.proofs.OrderedNames.{same_then}
use Rattle.label_graph.specs.Pairs.{AreSame}
use Rattle.net_model.specs.Reading.{Ground, ground_of}
use Rattle.query_classes.specs.TreeNames.{AreBaseNamesOf}
use Rattle.query_verdicts.proofs.name_judge.NameJudge.into_graphs.Goals as goal

pub returns-in-Some-clause-base : goal.returns-in-Some-clause-base
returns-in-Some-clause-base g c =
    let subject = g.S.OnSubject.subject in
    subst (λ (own : Option Ground). MatchOption own (AreSame subject.ground (ground_of subject.config)) (AreBaseNamesOf (ground_of subject.config))) c.in-Some.is
    c.self.invariant.own_are

pub returns-clause-base : goal.returns-clause-base
returns-clause-base g c =
    let subject = g.S.OnSubject.subject in
    let of = c.self.invariant in
    let same : AreSame subject.ground (ground_of subject.config) =
    subst (λ (own : Option Ground). MatchOption own (AreSame subject.ground (ground_of subject.config)) (AreBaseNamesOf (ground_of subject.config))) c.in-None.is of.own_are in
    record { same = same_then c.self.inside.names subject.ground (ground_of subject.config) of.names_are.same same; order = of.names_are.order }
