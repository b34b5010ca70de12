-- So far there is what the records of the first rows' zones name.
use Rattle.std.proofs.Common.{◌≡◌, take}
use Rattle.std.specs.List.{flat_map}
use Rattle.map_run.specs.Servers.{row_namings}
use Rattle.map_run.proofs.namings.namings_of.Given as goal

abbrev pub invariant-loop-row : goal.invariant-loop-row
invariant-loop-row l = l.namings ≡ flat_map (row_namings l.hosts) (take l.row-index l.rows)
