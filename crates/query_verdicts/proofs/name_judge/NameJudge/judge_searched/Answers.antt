use Rattle.std.proofs.Common.{sym, subst}
use Rattle.dns_data.specs.Name.{Labels}
use Rattle.query_classes.specs.Children.{IsInTree}
use Rattle.query_classes.specs.TreeNames.{HoldsBelow}
use Rattle.query_verdicts.specs.Verdict.{IsNameVerdict, IsQuiet}
use Rattle.query_verdicts.proofs.name_judge.NameJudge.judge_searched.Goals as goal

pub all_quiet-all_quiet-requires : goal.all_quiet-all_quiet-requires
all_quiet-all_quiet-requires g c = c.in_ok-ends.ensures

-- the name of the item with its live set is the item's
pub judge_name-requires-clause-live : goal.judge_name-requires-clause-live
judge_name-requires-clause-live g c = c.live_name-name.ensures.live

pub judge_name-requires-clause-in_tree : goal.judge_name-requires-clause-in_tree
judge_name-requires-clause-in_tree g c = subst (IsInTree g.S.OnSubject.subject.ground) (sym c.live_name-name.ensures.name) c.requires

pub judge_name-requires-clause-ends : goal.judge_name-requires-clause-ends
judge_name-requires-clause-ends g c = c.in_ok-ends.ensures

pub with_children-requires-clause-verdict : goal.with_children-requires-clause-verdict
with_children-requires-clause-verdict g c =
    subst (λ (name : Labels). IsNameVerdict g.S.OnSubject.subject g.S.OnSubject.states name c.in_ok-verdict.verdict) c.live_name-name.ensures.name c.in_ok-verdict.ensures

pub with_children-requires-clause-quiet : goal.with_children-requires-clause-quiet
with_children-requires-clause-quiet g c = λ said.
    subst (HoldsBelow (IsQuiet g.S.OnSubject.subject g.S.OnSubject.states)) c.live_name-name.ensures.name (c.all_quiet-all_quiet.ensures said)
