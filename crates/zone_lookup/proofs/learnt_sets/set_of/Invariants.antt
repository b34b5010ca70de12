use Rattle.std.proofs.Common.{take}
use Rattle.zone_lookup.specs.LearntSets.{IsSetOf}
use Rattle.zone_lookup.proofs.learnt_sets.set_of.Given as goal

-- of the names so far
abbrev pub invariant-loop-name : goal.invariant-loop-name
invariant-loop-name l = IsSetOf (take l.name-index l.names) l.set
