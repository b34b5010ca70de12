use Rattle.std.proofs.Common.{◌≡◌, sym, subst, rules}
use Rattle.std.specs.List.Sorted.{IsPermutation}
use Rattle.std.specs.Ordering.{is_lt}
use Rattle.std.proofs.lemmas.List.Sorted.{answers_always, ranks_by}
use Rattle.graph_form.specs.FirstFaults.{item_cmp}
use Rattle.graph_form.proofs.FirstFaults.{IsMerging, InOrder, items_total, merging_begins, merging_ends, merging_step, sorted_in_order}
use Rattle.graph_form.proofs.first_faults.first_of_each.Goals as goal

pub loop-next-init : goal.loop-next-init
loop-next-init g c =
    let fault_of = g.T.OfFault.fault_of in
    let rank = g.T.OfFault.rank in
    let total = g.met.T.OfFault.total in
    let sorted = c.sort_by.new.self.items in
    let permuted : IsPermutation c.args.items sorted = subst (λ xs. IsPermutation xs sorted) c.into_vec-sorted.ensures c.sort_by.ensures.permutation in
    let order : InOrder fault_of rank sorted =
    sorted_in_order fault_of rank total sorted
    (c.in_ok-sort_by.ensures.sorted (λ a b. is_lt (item_cmp fault_of rank a b)) (ranks_by (items_total fault_of rank total) (λ item. item))
    (answers_always _ (λ a r. is_lt r ≡ is_lt (item_cmp fault_of rank a.0.now a.1.0.now)) _ (λ f a r h called. search rules))) in
    let merging = IsMerging fault_of rank c.args.items in
    subst (λ left. merging left c.new-first.result) (sym c.into_iter-next-iterator.ensures.into_iter_gives.0)
    (subst (λ left. merging left c.new-first.result) (sym c.from_vec-next-items.ensures)
    (subst (merging sorted) (sym c.new-first.ensures) (merging_begins fault_of rank total c.args.items sorted permuted order)))

pub loop-next-preserved : goal.loop-next-preserved
loop-next-preserved g c =
    let fault_of = g.T.OfFault.fault_of in
    let rank = g.T.OfFault.rank in
    let next = c.in-Some.next in
    let left = c.next.new.self in
    subst (IsMerging fault_of rank c.args.items left) (sym c.in_ok-put_next.ensures)
    (merging_step fault_of rank g.met.T.OfFault.total c.args.items left c.loop-next.first next
    (subst (λ xs. IsMerging fault_of rank c.args.items xs c.loop-next.first) c.in-Some.ensures.steps c.loop-next.invariant))

pub returns : goal.returns
returns g c =
    let fault_of = g.T.OfFault.fault_of in
    let rank = g.T.OfFault.rank in
    merging_ends fault_of rank g.met.T.OfFault.total c.args.items c.loop-next.first
    (subst (λ xs. IsMerging fault_of rank c.args.items xs c.loop-next.first) c.in-None.ensures.steps.0 c.loop-next.invariant)
