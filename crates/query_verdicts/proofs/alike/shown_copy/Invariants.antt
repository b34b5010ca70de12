use Rattle.std.proofs.Common.{◌≡◌, take}
use Rattle.query_verdicts.proofs.alike.shown_copy.Given as goal

-- copies of the faults so far
abbrev pub invariant-loop-seen : goal.invariant-loop-seen
invariant-loop-seen l = l.copies ≡ take l.seen-index l.shown
