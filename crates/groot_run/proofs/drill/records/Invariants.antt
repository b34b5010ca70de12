use Rattle.std.proofs.Common.{◌≡◌, take}
use Rattle.std.specs.Prelude.{min}
use Rattle.io_edges.specs.Counts.{last_count}
use Rattle.groot_run.specs.DrillLine.{record_count}
use Rattle.groot_run.proofs.drill.records.Given as goal

-- those of the servers so far
abbrev pub invariant-loop-server : goal.invariant-loop-server
invariant-loop-server l = l.count ≡ min (record_count (take l.server-index l.server-items)) last_count
