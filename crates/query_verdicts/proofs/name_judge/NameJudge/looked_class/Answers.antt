use Rattle.std.proofs.Common.{Option, sym, subst}
use Rattle.std.specs.Prelude.{MatchOption}
use Rattle.std.proofs.lemmas.Result.{IfOk-weaker}
use Rattle.label_graph.specs.Pairs.{AreSame}
use Rattle.net_model.specs.Reading.{Ground, ground_of}
use Rattle.query_classes.specs.TreeNames.{AreBaseNamesOf}
use Rattle.query_classes.proofs.SameGrounds.{class_same, represents_same}
use Rattle.query_verdicts.specs.Queries.{LimitedQueries, StandsFor}
use Rattle.query_verdicts.specs.Verdict.{IsClassVerdict}
use Rattle.query_verdicts.proofs.name_judge.NameJudge.looked_class.Goals as goal

pub verdict-requires : goal.verdict-requires
verdict-requires g c =
    let subject = g.S.OnSubject.subject in
    let of = c.self.invariant in
    subst (λ (q : LimitedQueries). AreBaseNamesOf (ground_of q.config) c.in-Some.names) (sym of.queries_are)
    (subst (λ (own : Option Ground). MatchOption own (AreSame subject.ground (ground_of subject.config)) (AreBaseNamesOf (ground_of subject.config))) c.in-Some.is of.own_are)

pub verdict-requires-in-None : goal.verdict-requires-in-None
verdict-requires-in-None g c =
    let subject = g.S.OnSubject.subject in
    let of = c.self.invariant in
    let same : AreSame subject.ground (ground_of subject.config) =
    subst (λ (own : Option Ground). MatchOption own (AreSame subject.ground (ground_of subject.config)) (AreBaseNamesOf (ground_of subject.config))) c.in-None.is of.own_are in
    subst (λ (q : LimitedQueries). StandsFor (ground_of q.config) c.args.class.now c.args.query.now) (sym of.queries_are)
    (record {
      of_class = class_same subject.ground (ground_of subject.config) same c.args.query.now c.args.class.now c.requires.of_class;
      represents = represents_same subject.ground (ground_of subject.config) same c.args.class.now c.args.query.now c.requires.represents;
    })

pub returns-in-Some : goal.returns-in-Some
returns-in-Some g c =
    let query = c.args.query.now in
    IfOk-weaker c.verdict.result _ _
    (λ verdict is. subst (λ (q : LimitedQueries). IsClassVerdict q.config q.rewrites q.states query verdict) c.self.invariant.queries_are is) c.verdict.ensures

pub returns-in-None : goal.returns-in-None
returns-in-None g c =
    let query = c.args.query.now in
    IfOk-weaker c.verdict-in-None.result _ _
    (λ verdict is. subst (λ (q : LimitedQueries). IsClassVerdict q.config q.rewrites q.states query verdict) c.self.invariant.queries_are is) c.verdict-in-None.ensures
