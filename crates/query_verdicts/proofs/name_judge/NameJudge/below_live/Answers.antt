use Rattle.std.proofs.lemmas.Result.{IfOk-weaker}
use Rattle.query_classes.proofs.SameGrounds.{named_same, same_back}
use Rattle.query_verdicts.proofs.ClassesJudged.{represents_below}
use Rattle.query_verdicts.proofs.CoveringGrounds.{is_closed}
use Rattle.query_verdicts.proofs.name_judge.NameJudge.below_live.Goals as goal

pub below-requires-clause-live : goal.below-requires-clause-live
below-requires-clause-live g c = c.requires.live c.self.inside.names c.self.invariant.names_are

pub below-requires-clause-named : goal.below-requires-clause-named
below-requires-clause-named g c =
    let ground = g.S.OnSubject.subject.ground in
    let names = c.self.inside.names in
    named_same ground names (same_back names ground c.self.invariant.names_are.same) c.args.above.now.name c.requires.in_tree.0

pub returns : goal.returns
returns g c =
    let subject = g.S.OnSubject.subject in
    let of = c.self.invariant in
    IfOk-weaker c.below.result _ _
    (represents_below subject.ground c.self.inside.names of.names_are (is_closed subject.config subject.ground of.covering.covers) c.args.above.now.name c.requires.in_tree)
    c.below.ensures
