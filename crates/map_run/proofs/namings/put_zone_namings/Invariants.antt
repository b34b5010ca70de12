-- So far there is what the first records name.
use Rattle.std.proofs.Common.{◌≡◌, ◌++◌, take}
use Rattle.std.specs.List.{flat_map}
use Rattle.map_run.specs.Servers.{namings_at}
use Rattle.map_run.proofs.namings.put_zone_namings.Given as goal

abbrev pub invariant-loop-rr : goal.invariant-loop-rr
invariant-loop-rr l = l.namings ≡ l.fn.namings ++ flat_map (namings_at l.row l.tree.zone) (take l.rr-index l.rrs)
