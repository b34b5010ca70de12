use Rattle.std.proofs.Common.{All, take}
use Rattle.part_checks.specs.Short.{HasShorter}
use Rattle.part_checks.proofs.limits.check_longer_all.Given as goal

-- the names so far are longer
abbrev pub invariant-loop-name : goal.invariant-loop-name
invariant-loop-name l = All (HasShorter l.graph) (take l.name-index l.outside)
