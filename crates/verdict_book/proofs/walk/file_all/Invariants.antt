use Rattle.std.proofs.Common.{◌≡◌}
use Rattle.verdict_book.proofs.Walks.{Walked}
use Rattle.verdict_book.proofs.walk.file_all.Given as goal

abbrev pub invariant-loop-ticket : goal.invariant-loop-ticket
invariant-loop-ticket g l = Walked l.fn.book.limit l.book.history l.ticket × (l.book.limit ≡ l.fn.book.limit)
