use Rattle.std.proofs.Common.{◌≡◌, map, take}
use Rattle.report_check.proofs.entry.copied_walks.Given as goal

-- copies of the walks so far
abbrev pub invariant-loop-walk : goal.invariant-loop-walk
invariant-loop-walk l = l.copies ≡ map (λ walk. walk.now) (take l.walk-index l.walks)
