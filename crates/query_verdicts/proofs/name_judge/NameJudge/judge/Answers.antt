use Rattle.std.proofs.Common.{sym, subst}
use Rattle.dns_data.specs.Name.{Labels}
use Rattle.query_classes.specs.Children.{IsInTree}
use Rattle.query_classes.specs.TreeNames.{HoldsBelow}
use Rattle.query_verdicts.specs.Verdict.{IsNameVerdict, IsQuiet}
use Rattle.query_verdicts.proofs.QuietBelow.{holds_itself, holds_with_tail}
use Rattle.query_verdicts.proofs.name_judge.NameJudge.judge.Goals as goal

-- the name of the item with its live set is the item's
pub quiet_name-requires-clause-live : goal.quiet_name-requires-clause-live
quiet_name-requires-clause-live g c = c.live_name.ensures.live

pub quiet_name-requires-clause-in_tree : goal.quiet_name-requires-clause-in_tree
quiet_name-requires-clause-in_tree g c = subst (IsInTree g.S.OnSubject.subject.ground) (sym c.live_name.ensures.name) c.requires

pub quiet_name-requires-clause-alone : goal.quiet_name-requires-clause-alone
quiet_name-requires-clause-alone g c =
    let Holds = IsQuiet g.S.OnSubject.subject g.S.OnSubject.states in
    holds_itself Holds c.live_name.result.now.name (subst (HoldsBelow Holds) (sym c.live_name.ensures.name) (c.holds_below.ensures c.if-holds_below.true))

pub quiet_name-requires-clause-below : goal.quiet_name-requires-clause-below
quiet_name-requires-clause-below g c = λ tail is.
    let Holds = IsQuiet g.S.OnSubject.subject g.S.OnSubject.states in
    holds_with_tail Holds c.live_name.result.now.name (subst (HoldsBelow Holds) (sym c.live_name.ensures.name) (c.holds_below.ensures c.if-holds_below.true)) tail

pub with_children-requires-clause-verdict : goal.with_children-requires-clause-verdict
with_children-requires-clause-verdict g c =
    subst (λ (name : Labels). IsNameVerdict g.S.OnSubject.subject g.S.OnSubject.states name c.in_ok-verdict.verdict) c.live_name.ensures.name c.in_ok-verdict.ensures

pub with_children-requires-clause-quiet : goal.with_children-requires-clause-quiet
with_children-requires-clause-quiet g c = λ said. c.holds_below.ensures c.if-holds_below.true
