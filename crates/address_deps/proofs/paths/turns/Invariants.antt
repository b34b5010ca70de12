use Rattle.std.proofs.Common.{take}
use Rattle.std.specs.List.{AllZip}
use Rattle.address_deps.specs.Giving.{IsTurnOf}
use Rattle.address_deps.proofs.paths.turns.Given as goal

-- those of the branches so far
abbrev pub invariant-loop-branch : goal.invariant-loop-branch
invariant-loop-branch l = AllZip (IsTurnOf l.hosts) (take l.branch-index l.branches) l.turns.items
