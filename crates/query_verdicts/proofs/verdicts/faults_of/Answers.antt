use Rattle.std.proofs.Common.{subst}
use Rattle.std.proofs.lemmas.Result.{IfOk-weaker}
use Rattle.net_model.specs.Reading.{ground_of}
use Rattle.query_classes.specs.TreeNames.{AreBaseNamesOf}
use Rattle.query_verdicts.specs.Queries.{IsOwnClass, StandsFor}
use Rattle.query_verdicts.specs.declared.own_class.OwnClass.{OwnClass}
use Rattle.query_verdicts.proofs.ClassesJudged.{all_sought, graph_asked, graph_for}
use Rattle.query_verdicts.proofs.verdicts.faults_of.Goals as goal

pub graph_in_least-requires-clause-built : goal.graph_in_least-requires-clause-built
graph_in_least-requires-clause-built c = (c.args.query.now, c.requires.built)

pub shown_in-requires : goal.shown_in-requires
shown_in-requires c = c.requires.learnt.table

pub returns-in-Represents : goal.returns-in-Represents
returns-in-Represents c =
    let queries = c.args.queries.now in
    let query = c.args.query.now in
    let sets = c.requires.learnt.sets in
    let limited = c.in_ok-limited in
    let stands : StandsFor (ground_of queries.trees) c.in-Represents.class.now query =
    subst (λ (own : OwnClass). IsOwnClass queries.trees own query) c.in-Represents.is c.requires.own in
    IfOk-weaker c.shown_in.result _ _
    (λ shown are. all_sought queries.trees queries.rewrites queries.states c.args.learnt.now.sets sets query shown
    (are queries.rewrites query sets.least sets.greatest
    (graph_for queries.trees queries.rewrites queries.states c.args.learnt.now.sets.least query c.in-Represents.class.now limited.limited
    (limited.ensures.graph query c.requires.built) (limited.ensures.exact query c.requires.built) stands))) c.shown_in.ensures

pub represents-requires : goal.represents-requires
represents-requires c = c.in_ok-class-in-Asked.ensures.represented

pub returns : goal.returns
returns c =
    let queries = c.args.queries.now in
    let query = c.args.query.now in
    let sets = c.requires.learnt.sets in
    let limited = c.in_ok-limited in
    let names : AreBaseNamesOf (ground_of queries.trees) c.in-Asked.names.now =
    subst (λ (own : OwnClass). IsOwnClass queries.trees own query) c.in-Asked.is c.requires.own in
    IfOk-weaker c.shown_in-in-Asked.result _ _
    (λ shown are. all_sought queries.trees queries.rewrites queries.states c.args.learnt.now.sets sets query shown
    (are queries.rewrites query sets.least sets.greatest
    (graph_asked queries.trees queries.rewrites queries.states c.args.learnt.now.sets.least query c.in_ok-class-in-Asked.class c.in_ok-represents-in-Asked.represents limited.limited
    (limited.ensures.graph query c.requires.built) (limited.ensures.exact query c.requires.built) c.in-Asked.names.now names
    c.in_ok-class-in-Asked.ensures.class c.in_ok-represents-in-Asked.ensures))) c.shown_in-in-Asked.ensures
