use Rattle.std.proofs.Common.{◌≡◌, ◌++◌, take}
use Rattle.address_deps.proofs.direction.wake.Given as goal

-- those so far
abbrev pub invariant-loop-other : goal.invariant-loop-other
invariant-loop-other l = l.next ≡ l.fn.next ++ take l.other-index l.other-items
