use Rattle.std.proofs.Common.{◌≡◌, ◌+◌, take}
use Rattle.std.specs.Prelude.{min}
use Rattle.io_edges.specs.Counts.{last_count}
use Rattle.groot_run.specs.DrillLine.{zone_records}
use Rattle.groot_run.proofs.drill.server_records.Given as goal

-- with those of the zones so far
abbrev pub invariant-loop-zone : goal.invariant-loop-zone
invariant-loop-zone l = l.count ≡ min (l.before + zone_records (take l.zone-index l.zone-items)) last_count
