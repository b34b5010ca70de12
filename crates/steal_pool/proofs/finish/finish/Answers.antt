use Rattle.std.proofs.Common.{arith}
use Rattle.steal_pool.proofs.Finishing.{all_finished}
use Rattle.steal_pool.proofs.finish.finish.Goals as goal

pub finish_ticket-requires-clause-none_in_hand : goal.finish_ticket-requires-clause-none_in_hand
finish_ticket-requires-clause-none_in_hand g c κs within = c.issued.ensures.counts.none_in_hand c.loop-ticket.invariant.0.met

pub returns-clause-ok : goal.returns-clause-ok
returns-clause-ok g c =
    all_finished c.loop-ticket.book.history c.loop-ticket.ticket c.loop-ticket.invariant.0 (omega (arith, c.loop-ticket-test.false, c.issued.ensures.count)) c.issued.ensures.counts
