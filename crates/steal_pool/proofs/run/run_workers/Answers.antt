use Rattle.std.proofs.Common.{rules, ◌≡◌, ◌++◌, take, drop, length, subst, sym, All}
use Rattle.std.proofs.Math.Seq.{take-append_seam}
use Rattle.steal_pool.specs.Slots.{IsSettledSlot}
use Rattle.steal_pool.proofs.run.run_workers.Goals as goal

-- the slots are those that the threads left
pub gather-requires-clause-settled : goal.gather-requires-clause-settled
gather-requires-clause-settled g c κs within =
    let xs = c.run_slots.new.slots in
    let rest = drop (length xs) c.in_ok-slots.slots.items in
    let n : length xs ≡ c.in_ok-slots.slots.len = search rules in
    let e : take c.in_ok-slots.slots.len (xs ++ rest) ≡ xs = subst (λ m. take m (xs ++ rest) ≡ xs) n (take-append_seam xs rest) in
    subst (All (IsSettledSlot g.W.Work.first_item g.W.Work.children_of g.A.Capped.limit)) (sym e) c.run_slots.ensures.settled
