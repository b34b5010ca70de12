-- So far there is what zones tell of the first ones.
use Rattle.std.proofs.Common.{◌≡◌, map, take}
use Rattle.alias_ends.specs.Known.{leaf_at}
use Rattle.alias_ends.proofs.words.leaves_at.Given as goal

abbrev pub invariant-loop-end : goal.invariant-loop-end
invariant-loop-end l = l.leaves ≡ map (leaf_at l.hosts l.rtype) (take l.end-index l.ends)
