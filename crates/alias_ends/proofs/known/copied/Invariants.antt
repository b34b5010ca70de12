-- So far there are copies of the first ones.
use Rattle.std.proofs.Common.{◌≡◌, take}
use Rattle.alias_ends.proofs.known.copied.Given as goal

abbrev pub invariant-loop-end : goal.invariant-loop-end
invariant-loop-end l = l.copies ≡ take l.end-index l.ends
