use Rattle.std.proofs.Common.{[], sym, subst, true≢false}
use Rattle.dns_data.specs.Name.{Labels}
use Rattle.query_classes.specs.Children.{IsInTree}
use Rattle.query_verdicts.proofs.JudgedItems.{children_picked, item_in_tree, verdict_picked}
use Rattle.same_answers.specs.Compared.{joint}
use Rattle.same_answers.specs.Verdict.{IsPairVerdict}
use Rattle.same_answers.proofs.Comparing.{is_covering}
use Rattle.same_answers.proofs.OneSameness.{one_end}
use Rattle.same_answers.proofs.pairing.PairingWork.judge.Goals as goal

pub judge_name-requires-clause-live : goal.judge_name-requires-clause-live
judge_name-requires-clause-live g c = c.live_name.ensures.live

pub judge_name-requires-clause-in_tree : goal.judge_name-requires-clause-in_tree
judge_name-requires-clause-in_tree g c =
    let N = g.N.PairNaming in
    subst (IsInTree (joint N.compared)) (sym c.live_name.ensures.name)
    (item_in_tree c.self.invariant.values c.args.item.now [] (is_covering N.compared).in_tree c.requires)

pub children-requires-clause-base : goal.children-requires-clause-base
children-requires-clause-base g c = c.self.invariant.names_are

pub children-requires-clause-hold : goal.children-requires-clause-hold
children-requires-clause-hold g c = λ said. absurd (true≢false (sym said))

pub returns-clause-verdict : goal.returns-clause-verdict
returns-clause-verdict g c =
    let N = g.N.PairNaming in
    let item = c.args.item.now in
    verdict_picked c.self.invariant.values item (one_end N.compared) (item_in_tree c.self.invariant.values item [] (is_covering N.compared).in_tree c.requires) c.in_ok-verdict.verdict
    (subst (λ (name : Labels). IsPairVerdict N.compared name c.in_ok-verdict.verdict) c.live_name.ensures.name c.in_ok-verdict.ensures)

pub returns-clause-children : goal.returns-clause-children
returns-clause-children g c = children_picked c.self.invariant.values c.args.item.now c.in_ok-children.children c.in_ok-children.ensures
