use Rattle.std.proofs.Common.{◌≡◌, ◌+◌, All}
use Rattle.std.specs.Prelude.{vec_len}
use Rattle.steal_pool.specs.Slots.{IsSettledSlot}
use Rattle.steal_pool.specs.Runs.{IsTally}
use Rattle.steal_pool.proofs.gather.gather.Given as goal

abbrev pub invariant-loop-slot : goal.invariant-loop-slot
invariant-loop-slot g l =
    (l.given.parts + vec_len l.slots ≡ g.B.Ledger.parts)
    × (l.filed.parts + vec_len l.slots ≡ g.C.Ledger.parts)
    × IsTally g.W.Work.first_item g.W.Work.children_of g.A.Capped.limit l.given.amount l.filed.amount l.tally
    × All (IsSettledSlot g.W.Work.first_item g.W.Work.children_of g.A.Capped.limit) l.slots.items

abbrev pub decreases-loop-slot : goal.decreases-loop-slot
decreases-loop-slot g l = goal.left-loop-slot g l
