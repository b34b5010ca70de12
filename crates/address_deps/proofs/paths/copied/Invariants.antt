use Rattle.std.proofs.Common.{◌≡◌, take}
use Rattle.address_deps.proofs.paths.copied.Given as goal

-- the numbers so far
abbrev pub invariant-loop-number : goal.invariant-loop-number
invariant-loop-number l = l.copy ≡ take l.number-index l.numbers
