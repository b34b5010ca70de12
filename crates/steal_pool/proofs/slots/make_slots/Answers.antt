use Rattle.std.proofs.Common.{sym, subst, arith, All}
use Rattle.std.proofs.lemmas.List.Elements.{All-push}
use Rattle.steal_pool.specs.Slots.{IsUnused}
use Rattle.steal_pool.proofs.slots.make_slots.Goals as goal

pub loop-own-preserved : goal.loop-own-preserved
loop-own-preserved g c =
    let inv = c.loop-own.invariant in
    let less = c.in-Some.ensures.cases in (
      omega (arith, c.new_slot.ensures.asked.0, inv.0, less),
      c.new_slot.ensures.asked.1,
      omega (arith, c.new_slot.ensures.given.0, inv.2, less),
      c.new_slot.ensures.given.1,
      omega (arith, c.new_slot.ensures.filed.0, inv.4, less),
      c.new_slot.ensures.filed.1,
      omega (arith, c.in_ok-push.ensures.len, inv.6, less),
      subst (All IsUnused) (sym c.in_ok-push.ensures.items) (All-push IsUnused c.loop-own.slots.items c.new_slot.result inv.7 c.new_slot.ensures.fresh),
    )
