use Rattle.std.proofs.Common.{◌+◌, length}
use Rattle.std.specs.Prelude.{◌-◌}
use Rattle.verdict_book.proofs.Ranks.{IsPutting, misplaced}
use Rattle.verdict_book.proofs.order.put_at_ranks.Given as goal

-- elements and ranks were exchanged together, and the ranks before the place stand at their own places
abbrev pub invariant-loop-place : goal.invariant-loop-place
invariant-loop-place g l = IsPutting l.initial.items.items l.initial.ranks l.items.items l.ranks l.place

-- ranks at other places than their own, and places that are left
abbrev pub decreases-loop-place : goal.decreases-loop-place
decreases-loop-place g l = misplaced 0 l.ranks + (length l.ranks - l.place)
