use Rattle.std.proofs.Common.{◌≡◌, map, take}
use Rattle.query_classes.proofs.level.names_of.Given as goal

-- the names of those passed
abbrev pub invariant-loop-below : goal.invariant-loop-below
invariant-loop-below l = l.names ≡ map (λ below. below.name) (take l.below-index l.found)
