use Rattle.std.proofs.Common.{Bool, true, false, subst}
use Rattle.query_classes.specs.Children.{HasBelow}
use Rattle.query_classes.proofs.SameGrounds.{named_same, same_back}
use Rattle.query_verdicts.specs.Verdict.{IsClassVerdict}
use Rattle.query_verdicts.proofs.QuietBelow.{verdict_below}
use Rattle.query_verdicts.proofs.name_judge.NameJudge.below_with.Goals as goal

pub has_below-requires-clause-live : goal.has_below-requires-clause-live
has_below-requires-clause-live g c = c.requires.live c.self.inside.names c.self.invariant.names_are

pub has_below-requires-clause-named : goal.has_below-requires-clause-named
has_below-requires-clause-named g c =
    let ground = g.S.OnSubject.subject.ground in
    let names = c.self.inside.names in
    named_same ground names (same_back names ground c.self.invariant.names_are.same) c.args.above.now.name c.requires.in_tree.0

pub returns-then-branch : goal.returns-then-branch
returns-then-branch g c =
    let subject = g.S.OnSubject.subject in
    let states = g.S.OnSubject.states in
    let names = c.self.inside.names in
    let above = c.args.above.now.name in
    let of = c.self.invariant in
    verdict_below subject.ground subject.config of.covering.covers (IsClassVerdict subject.config subject.rewrites states) c.args.verdict above c.requires.in_tree c.requires.below
    names of.names_are true (subst (λ (some : Bool). HasBelow names above some) c.if-branch.true c.in_ok-has_below.ensures)

pub returns-else-branch : goal.returns-else-branch
returns-else-branch g c =
    let subject = g.S.OnSubject.subject in
    let states = g.S.OnSubject.states in
    let names = c.self.inside.names in
    let above = c.args.above.now.name in
    let of = c.self.invariant in
    verdict_below subject.ground subject.config of.covering.covers (IsClassVerdict subject.config subject.rewrites states) c.args.verdict above c.requires.in_tree c.requires.below
    names of.names_are false (subst (λ (some : Bool). HasBelow names above some) c.if-branch.false c.in_ok-has_below.ensures)
