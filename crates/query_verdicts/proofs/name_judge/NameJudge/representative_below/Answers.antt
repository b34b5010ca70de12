use Rattle.std.proofs.Common.{sym, subst}
use Rattle.std.proofs.lemmas.Result.{IfOk-weaker}
use Rattle.dns_data.specs.Name.{Labels}
use Rattle.net_model.specs.Reading.{IsNamed}
use Rattle.query_classes.specs.Children.{IsBelow}
use Rattle.query_classes.proofs.SameGrounds.{named_same, same_back}
use Rattle.query_verdicts.proofs.ClassesJudged.{represents_below}
use Rattle.query_verdicts.proofs.CoveringGrounds.{is_closed}
use Rattle.query_verdicts.proofs.name_judge.NameJudge.representative_below.Goals as goal

pub below-requires-clause-live : goal.below-requires-clause-live
below-requires-clause-live g c = c.in_ok-live.ensures.live

pub below-requires-clause-named : goal.below-requires-clause-named
below-requires-clause-named g c =
    let ground = g.S.OnSubject.subject.ground in
    let names = c.self.inside.names in
    subst (IsNamed names) (sym c.in_ok-live.ensures.name)
    (named_same ground names (same_back names ground c.self.invariant.names_are.same) c.args.above.now c.requires.0)

pub returns : goal.returns
returns g c =
    let subject = g.S.OnSubject.subject in
    let of = c.self.invariant in
    let names = c.self.inside.names in
    IfOk-weaker c.below.result _ _
    (λ found is. represents_below subject.ground names of.names_are (is_closed subject.config subject.ground of.covering.covers) c.args.above.now c.requires found
    (subst (λ (n : Labels). IsBelow names n found) c.in_ok-live.ensures.name is)) c.below.ensures
