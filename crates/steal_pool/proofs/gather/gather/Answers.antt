use Rattle.std.proofs.Common.{subst, arith}
use Rattle.std.specs.Prelude.{IfSome}
use Rattle.std.proofs.lemmas.List.Elements.{All-pop}
use Rattle.steal_pool.specs.Slots.{IsSettledSlot}
use Rattle.steal_pool.proofs.gather.gather.Goals as goal

pub add_slot-requires-clause-settled : goal.add_slot-requires-clause-settled
add_slot-requires-clause-settled g c κs within =
    let P = IsSettledSlot g.W.Work.first_item g.W.Work.children_of g.A.Capped.limit in
    subst (λ o. IfSome o P) c.in-Some.is (All-pop P _ _ c.pop.result c.pop.ensures.items c.loop-slot.invariant.3).1

pub loop-slot-preserved : goal.loop-slot-preserved
loop-slot-preserved g c =
    let P = IsSettledSlot g.W.Work.first_item g.W.Work.children_of g.A.Capped.limit in (
      omega (arith, c.add_slot.ensures.parts.0, c.loop-slot.invariant.0, c.in-Some.ensures.cases),
      omega (arith, c.add_slot.ensures.parts.1, c.loop-slot.invariant.1, c.in-Some.ensures.cases),
      c.add_slot.ensures.tally,
      (All-pop P _ _ c.pop.result c.pop.ensures.items c.loop-slot.invariant.3).0,
    )
