use Rattle.std.proofs.Common.{◌≡◌, ◌+◌, ◌^◌}
use Rattle.std.specs.Prelude.{◌-◌}
use Rattle.verdict_book.specs.Books.{claims_in}
use Rattle.steal_pool.specs.Finish.{IsFiledBelow}
use Rattle.steal_pool.proofs.finish.finish.Given as goal

abbrev pub invariant-loop-ticket : goal.invariant-loop-ticket
invariant-loop-ticket g l =
    IsFiledBelow l.book.history l.ticket
    × (l.share + claims_in l.fn.book.history ≡ claims_in l.book.history)
    × (l.book.limit ≡ l.fn.book.limit)

abbrev pub decreases-loop-ticket : goal.decreases-loop-ticket
decreases-loop-ticket g l = 2 ^ 32 - l.ticket
