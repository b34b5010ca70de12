-- So far there are the servers of the first ends.
use Rattle.std.proofs.Common.{◌≡◌, take}
use Rattle.std.specs.List.{flat_map}
use Rattle.map_run.specs.ReachedRows.{answering_at}
use Rattle.map_run.proofs.answered.answering.Given as goal

abbrev pub invariant-loop-end : goal.invariant-loop-end
invariant-loop-end l = l.servers ≡ flat_map answering_at (take l.end-index l.ends)
