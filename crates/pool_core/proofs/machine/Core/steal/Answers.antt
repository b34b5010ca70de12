use Rattle.std.proofs.Common.{◌∙◌, arith}
use Rattle.std.proofs.lemmas.List.{with_items_is}
use Rattle.pool_core.proofs.Keeps.{run_more, kept_steal, first_issued, steal_within}
use Rattle.pool_core.proofs.machine.Core.steal.Goals as goal

pub hold_first-requires-clause-queue : goal.hold_first-requires-clause-queue
hold_first-requires-clause-queue c =
    rw c.deref_mut.ensures.value (steal_within _ _ _ _ _ _ _ c.self.view_is c.self.invariant c.args.worker c.args.from c.requires)

pub hold_first-requires-clause-ticket : goal.hold_first-requires-clause-ticket
hold_first-requires-clause-ticket c =
    rw (c.deref_mut.ensures.value, c.deref_mut-2.ensures.value) (first_issued _ _ _ _ _ _ _ c.self.view_is c.self.invariant c.args.from)

pub invariant_of-self-2 : goal.invariant_of-self-2
invariant_of-self-2 c =
    kept_steal _ _ _ _ _ _ _ _ c.self.view_is c.self.invariant c.args.worker c.args.from _ _ c.requires c.in_ok-push.ensures.items
    (with_items_is c.self.inside.spots c.hold_first.new.spots (omega arith) ∙ rw (c.deref_mut.ensures.value, c.deref_mut-2.ensures.value) at c.hold_first.ensures.spots)
    (with_items_is c.self.inside.queues c.hold_first.new.queues (omega arith) ∙ rw c.deref_mut.ensures.value at c.hold_first.ensures.queues)

pub returns-clause-ok : goal.returns-clause-ok
returns-clause-ok c = run_more _ _ _ _ _ _ c.self.view_is c.requires c.in_ok-push.ensures.items
