use Rattle.std.proofs.Common.{◌≡◌, ◌+◌, ◌≤◌}
use Rattle.std.specs.Prelude.{vec_len, None}
use Rattle.steal_pool.specs.Slots.{taken_in}
use Rattle.steal_pool.specs.Ends.{ClaimsMet, IsRightCause}
use Rattle.steal_pool.proofs.laws.worker.Given as goal

abbrev pub invariant-loop : goal.invariant-loop
invariant-loop g l =
    ((l.slot.asked.amount + vec_len l.kept) + taken_in l.fn.slot.own l.fn.slot.others.items ≡ taken_in l.slot.own l.slot.others.items + l.slot.refused)
    × (l.slot.share ≡ l.slot.given.amount)
    × (l.slot.filed.amount + l.slot.foreign ≤ l.slot.given.amount)
    × ClaimsMet l.slot.given.amount l.slot.filed.amount l.slot.foreign l.stopped
    × IsRightCause g.W.Work.first_item g.W.Work.children_of g.A.Capped.limit l.stopped
    × (l.slot.ended ≡ None)
    × (l.slot.asked.parts ≡ l.fn.slot.asked.parts)
    × (l.slot.given.parts ≡ l.fn.slot.given.parts)
    × (l.slot.filed.parts ≡ l.fn.slot.filed.parts)
