use Rattle.std.proofs.Common.{◌≡◌, sym, subst}
use Rattle.std.proofs.lemmas.Result.{IfOk-weaker}
use Rattle.query_verdicts.specs.Queries.{LimitedQueries}
use Rattle.same_answers.specs.GraphFound.{IsGraphFound, end_by_graphs}
use Rattle.same_answers.specs.Verdict.{IsPairEnd}
use Rattle.same_answers.specs.declared.verdict.PairEnd.{PairEnd}
use Rattle.same_answers.proofs.PairEnds.{end_by_found}
use Rattle.same_answers.proofs.pairing.Pairing.class_by_graphs.Goals as goal

pub returns : goal.returns
returns g c =
    let two = g.N.PairNaming.compared in
    let query = c.args.query.now in
    let first = c.in_ok-first.first in
    let second = c.in_ok-second.second in
    IfOk-weaker c.end_by_graphs.result (λ end. end ≡ end_by_graphs first second) (IsPairEnd two query)
    (λ end is. subst (λ (e : PairEnd). IsPairEnd two query e) (sym is)
    (end_by_found two query first second
    (subst (λ (q : LimitedQueries). IsGraphFound q query first) c.self.invariant.of_first c.in_ok-first.ensures)
    (subst (λ (q : LimitedQueries). IsGraphFound q query second) c.self.invariant.of_second c.in_ok-second.ensures)))
    c.end_by_graphs.ensures
