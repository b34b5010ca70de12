use Rattle.std.proofs.Common.{◌≡◌}
use Rattle.std.proofs.lemmas.Result.{IfOk-weaker}
use Rattle.query_verdicts.proofs.JudgedItems.{children_picked, item_in_tree, verdict_picked}
use Rattle.query_verdicts.proofs.OneVerdict.{one_verdict}
use Rattle.class_judge.proofs.judge.JudgeWork.judge.Goals as goal

pub judge-judged-requires : goal.judge-judged-requires
judge-judged-requires g c =
    let N = g.N.Naming in
    item_in_tree N.values c.args.item.now N.subject.below c.self.invariant.covering.in_tree c.requires

pub returns-clause-verdict : goal.returns-clause-verdict
returns-clause-verdict g c =
    let N = g.N.Naming in
    let item = c.args.item.now in
    IfOk-weaker c.judge-judged.result _ (λ judged. judged.verdict ≡ N.verdict_of item)
    (λ judged. verdict_picked N.values item (one_verdict N.subject.config N.subject.rewrites N.states)
    (item_in_tree N.values item N.subject.below c.self.invariant.covering.in_tree c.requires) judged.verdict)
    c.judge-judged.ensures.verdict

pub returns-clause-children : goal.returns-clause-children
returns-clause-children g c =
    let N = g.N.Naming in
    let item = c.args.item.now in
    IfOk-weaker c.judge-judged.result _ (λ judged. judged.children ≡ N.children_of item)
    (λ judged. children_picked N.values item judged.children) c.judge-judged.ensures.children
