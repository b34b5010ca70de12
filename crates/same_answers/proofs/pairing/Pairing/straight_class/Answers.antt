use Rattle.std.proofs.Common.{Option, sym, subst}
use Rattle.std.specs.Prelude.{IfSome}
use Rattle.straight_walks.specs.declared.ends.StraightEnds.{StraightEnds}
use Rattle.query_verdicts.specs.Queries.{AreStraightEnds, LimitedQueries}
use Rattle.same_answers.specs.Verdict.{IsPairEnd}
use Rattle.same_answers.proofs.PairEnds.{end_by_straight}
use Rattle.same_answers.proofs.pairing.Pairing.straight_class.Goals as goal

pub returns : goal.returns
returns g c =
    let two = g.N.PairNaming.compared in
    let query = c.args.query.now in
    let first = c.in-Some.first in
    let second = c.in-Some-2.second in
    let one = c.self.inside.first in
    let other = c.self.inside.second in
    subst (IsPairEnd two query) (sym c.straight_end.ensures)
    (end_by_straight two query first second
    (subst (λ (q : LimitedQueries). AreStraightEnds q.config q.rewrites q.states query first) c.self.invariant.of_first
    (subst (λ (found : Option StraightEnds). IfSome found (AreStraightEnds one.config one.rewrites one.states query)) c.in-Some.is c.in_ok-first.ensures))
    (subst (λ (q : LimitedQueries). AreStraightEnds q.config q.rewrites q.states query second) c.self.invariant.of_second
    (subst (λ (found : Option StraightEnds). IfSome found (AreStraightEnds other.config other.rewrites other.states query)) c.in-Some-2.is c.in_ok-second.ensures)))
