use Rattle.std.proofs.Common.{◌≡◌, List, rules, sym, subst}
use Rattle.std.specs.List.Sorted.{IsPermutation, IsSortedBy}
use Rattle.std.specs.Ordering.{is_lt}
use Rattle.std.proofs.lemmas.List.Sorted.{answers_always, ranks_by}
use Rattle.net_model.proofs.FaultOrder.{faults_total}
use Rattle.query_verdicts.specs.Kept.{is_kept_before}
use Rattle.query_verdicts.proofs.report.in_fault_order.Goals as goal

pub returns-clause-same : goal.returns-clause-same
returns-clause-same g c =
    subst (IsPermutation c.args.kept) (sym c.from_vec.ensures)
    (subst (λ (all : List _). IsPermutation all c.sort_by.new.self.items) c.into_vec-sorted.ensures c.sort_by.ensures.permutation)

pub returns-clause-sorted : goal.returns-clause-sorted
returns-clause-sorted g c =
    let fault_of = g.K.Kept.fault_of in
    subst (IsSortedBy (is_kept_before fault_of)) (sym c.from_vec.ensures)
    (c.in_ok-sort_by.ensures.sorted (is_kept_before fault_of) (ranks_by faults_total fault_of)
    (answers_always _ (λ a r. is_lt r ≡ is_kept_before fault_of a.0.now a.1.0.now) _ (λ f a r h called. search rules)))
